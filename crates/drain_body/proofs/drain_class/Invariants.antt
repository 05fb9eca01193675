-- `drain_body::drain_class` meets its contract. The loop's invariant: the locals from here on drain to the same state as all of them. Assumes nothing.
use mathlib.Core.Path.{◌≡◌}
use mathlib.Core.List.{List}
use Prim.Native.Nat.{ℕ, ◌-◌}
use lib.ListN.{length}
use Rattle.rules.specs.Words.{config}
use Rattle.rules_calls.specs.Calls.{fresh, drain_locals}
use Rattle.drain_body.proofs.drain_class.Given as goal

abbrev pub invariant-loop-i : goal.invariant-loop-i
invariant-loop-i l =
    (length l.trees ≡ length l.initial.trees)
    × ((length l.locals ≡ length l.initial.locals)
    × ((b : List ℕ) → drain_locals (l.n - l.i) (config l.h l.table) l.class l.i (fresh l.trees l.locals b) ≡ drain_locals l.n (config l.h l.table) l.class 0 (fresh l.initial.trees l.initial.locals b)))

abbrev pub decreases-loop-i : goal.decreases-loop-i
decreases-loop-i l = l.n - l.i
