use Rattle.std.proofs.Common.{◌≡◌, drop}
use Rattle.run_sums.specs.Fnv.{basis}
use Rattle.run_sums.proofs.fnv.Given as goal

abbrev pub invariant-loop-word : goal.invariant-loop-word
invariant-loop-word g l = g.W.Word.from basis l.words ≡ g.W.Word.from l.sum (drop l.word-index l.words)
