-- `test_entries::entries_stand`: every entry passed stands. Assumes nothing.
use mathlib.Core.Path.{◌≡◌}
use mathlib.Core.Bool.{true}
use mathlib.Core.List.{List}
use Prim.Native.Nat.{ℕ}
use Rattle.rules.specs.Base.{all_below}
use Rattle.rules.specs.Words.{config}
use Rattle.rules_calls.specs.Standing.{entry_stands}
use Rattle.test_entries.proofs.entries_stand.Given as goal

abbrev pub invariant-loop-t : goal.invariant-loop-t
invariant-loop-t l = (pairs : List ℕ) → all_below l.t (entry_stands (config l.fn.h pairs) l.trees l.bits) ≡ true
