-- `start_fills::fill_trees` meets its contract: three fills, or one. Assumes nothing.
use native.Mathlib.Omega.{arith}
use Rattle.start_stores.specs.Fill.{all-filled, parts-filled}
use Rattle.start_words.specs.Share.{tree-full, tree-held}
use Rattle.start_fills.proofs.fill_trees.Goals as goal

pub returns-then-whole-n : goal.returns-then-whole-n
returns-then-whole-n c =
    parts-filled _ c.args.trees.now _ _ _ _ _ _ _ c.if-whole-n.true
    (λ i l. rw c.tree_word_at-full.ensures (tree-full c.args.f i c.args.default l)) c.tree_word_at.ensures
    (λ i l. rw c.tree_word_at-then-whole-n.ensures (tree-held c.args.f i c.args.default l))
    c.fill.ensures c.fill-then-whole-n.ensures c.fill-then-whole-n-2.ensures

pub returns-else-whole-n : goal.returns-else-whole-n
returns-else-whole-n c = all-filled _ c.args.trees.now _ _ (λ i l. rw c.tree_word_at-full.ensures (tree-full c.args.f i c.args.default (omega arith))) c.fill-else-whole-n.ensures
