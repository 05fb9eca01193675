-- `lower_words::open_word` meets its contract. The loop's invariant: the words passed are wholly held. Assumes nothing.
use Rattle.std.proofs.Common.{◌≡◌, ◌-◌, ◌*◌}
use Rattle.rules.specs.Lower.{held}
use Rattle.lower_words.proofs.open_word.Given as goal

abbrev pub invariant-loop-i : goal.invariant-loop-i
invariant-loop-i l = held l.words (l.at * 64) ((l.i - l.at) * 64) ≡ (l.i - l.at) * 64
