-- `start_fills::fill_bits` meets its contract: three fills, or one. Assumes nothing.
use native.Mathlib.Omega.{arith}
use Rattle.start_stores.specs.Fill.{all-filled, parts-filled}
use Rattle.start_words.specs.Share.{word-free, word_held}
use Rattle.start_fills.proofs.fill_bits.Goals as goal

pub returns-then-whole-n : goal.returns-then-whole-n
returns-then-whole-n c =
    parts-filled _ c.args.bits.now _ _ _ _ _ _ _ c.if-whole-n.true
    (λ i l. word-free c.args.f i l) c.bits_word_at.ensures (λ i l. word_held c.args.f i l)
    c.fill.ensures c.fill-then-whole-n.ensures c.fill-then-whole-n-2.ensures

pub returns-else-whole-n : goal.returns-else-whole-n
returns-else-whole-n c = all-filled _ c.args.bits.now _ _ (λ i l. word-free c.args.f i (omega arith)) c.fill-else-whole-n.ensures
