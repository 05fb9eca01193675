-- `drain_body::drain_body` meets its contract. The loop's invariant: the classes from here on drain to the same state as all of them. Assumes nothing.
use mathlib.Core.Path.{◌≡◌}
use mathlib.Core.List.{List}
use Prim.Native.Nat.{ℕ, ◌-◌}
use lib.ListN.{length}
use Rattle.rules.specs.Words.{config}
use Rattle.rules_calls.specs.Calls.{fresh, drain_classes}
use Rattle.drain_body.proofs.drain_body.Given as goal

abbrev pub invariant-loop-k : goal.invariant-loop-k
invariant-loop-k l =
    (length l.trees ≡ length l.initial.trees)
    × ((length l.locals ≡ length l.initial.locals)
    × ((b : List ℕ) → drain_classes (8 - l.k) (config l.h l.table) l.k (fresh l.trees l.locals b) ≡ drain_classes 8 (config l.h l.table) 0 (fresh l.initial.trees l.initial.locals b)))

abbrev pub decreases-loop-k : goal.decreases-loop-k
decreases-loop-k l = 8 - l.k
