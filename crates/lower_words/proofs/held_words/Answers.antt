-- What the goals of `lower_words::held_words` follow from. Assumes nothing.
use Rattle.std.proofs.Common.{◌≡◌, List, ℕ, ◌+◌, ◌*◌, ◌<◌, ◌≤◌, ◌^◌, get_or, length, arith}
use lib.Count.{ones}
use Rattle.rules.specs.Lower.{held}
use Rattle.law_rules.specs.Run.{run_none}
use Rattle.law_rules.specs.Held.{held_more, held-le}
use Rattle.lower_words.specs.Part.{part, part-length, part-at}
use Rattle.lower_words.proofs.held_words.Goals as goal

-- one word more
more : (ws : List ℕ) (a n i : ℕ) → a + n ≤ length ws → i < length (part ws a n) → get_or ws (a + i) 0 < 2 ^ 64
    → held ws (a * 64) (i * 64) + ones (get_or (part ws a n) i 0) ≡ held ws (a * 64) ((i + 1) * 64)
more ws a n i m l h = rw (part-at ws a n i (omega (arith, part-length ws a n m))) (held_more ws a i h)

pub loop-w-init : goal.loop-w-init
loop-w-init c = omega (arith, run_none c.args.words.now (c.args.at * 64))

pub overflow_add-sum : goal.overflow_add-sum
overflow_add-sum c =
    let h = (c.type_inv.words (c.args.at + c.loop-w.w-index)).fits in
    omega (arith, more _ _ _ _ c.requires.1 c.loop-w-test.true h, held-le c.args.words.now (c.args.at * 64) ((c.loop-w.w-index + 1) * 64), part-length _ _ _ c.requires.1)

pub loop-w-preserved : goal.loop-w-preserved
loop-w-preserved c =
    let h = (c.type_inv.words (c.args.at + c.loop-w.w-index)).fits in
    omega (arith, more _ _ _ _ c.requires.1 c.loop-w-test.true h)
