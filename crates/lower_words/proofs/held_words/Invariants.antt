-- `lower_words::held_words` meets its contract. The loop's invariant: `sum` is what is held of the words passed. Assumes nothing.
use Rattle.std.proofs.Common.{◌≡◌, ◌*◌}
use Rattle.rules.specs.Lower.{held}
use Rattle.lower_words.proofs.held_words.Given as goal

abbrev pub invariant-loop-w : goal.invariant-loop-w
invariant-loop-w l = l.sum ≡ held l.words (l.at * 64) (l.w-index * 64)
