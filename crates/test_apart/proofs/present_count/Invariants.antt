-- `test_apart::present_count`: what was passed is counted, each word once at most. Assumes nothing.
use mathlib.Core.Path.{◌≡◌}
use Prim.Native.Nat.{◌≤◌}
use Rattle.rules_calls.specs.Standing.{present_count}
use Rattle.test_apart.proofs.present_count.Given as goal

abbrev pub invariant-loop-word : goal.invariant-loop-word
invariant-loop-word l = record { few : l.present ≤ l.word-index; counted : l.present ≡ present_count l.locals l.word-index }
