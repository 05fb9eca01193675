-- `test_apart::apart`: every local passed is apart from those before it, and the marks are the trees that they hold. Assumes nothing.
use mathlib.Core.Path.{◌≡◌}
use mathlib.Core.Bool.{true}
use Rattle.rules.specs.Base.{all_below}
use Rattle.rules_calls.specs.Standing.{apart_before}
use Rattle.test_apart.specs.Apart.{Marks}
use Rattle.test_apart.proofs.apart.Given as goal

abbrev pub invariant-loop-word : goal.invariant-loop-word
invariant-loop-word l = record { apart : all_below l.word-index (apart_before 11 l.locals) ≡ true; marked : Marks 11 l.locals l.word-index l.marks }
