-- `test_apart::reserved_count`: what was passed is counted, each word once at most. Assumes nothing.
use mathlib.Core.Path.{◌≡◌}
use Prim.Native.Nat.{◌≤◌}
use Rattle.rules_calls.specs.Standing.{reserved_count}
use Rattle.test_apart.proofs.reserved_count.Given as goal

abbrev pub invariant-loop-word : goal.invariant-loop-word
invariant-loop-word l = record { few : l.reserved ≤ l.word-index; counted : l.reserved ≡ reserved_count l.trees l.word-index }
