use Rattle.std.proofs.Common.{◌≡◌, ◌-◌}
use Rattle.run_sums.specs.Fnv.{fnv_word}
use Rattle.run_sums.proofs.with_word.Given as goal

abbrev pub invariant-loop : goal.invariant-loop
invariant-loop l = fnv_word l.n l.h l.word ≡ fnv_word (l.n - l.counter) l.sum l.left
