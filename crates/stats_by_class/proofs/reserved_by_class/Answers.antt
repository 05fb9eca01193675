-- One local more, in the sum of the class of its tree's entry: its free, or nothing if it is absent. Assumes nothing.
use mathlib.Core.Path.{◌≡◌}
use native.Mathlib.Omega.{arith}
use lib.Dec.{eqb}
use Prim.Native.Nat.{◌≤◌, ◌^◌}
use Rattle.rules.specs.Base.{pick}
use Rattle.stats_by_class.specs.Sums.{held_on, both-picked, summed-none, summed-more}
use Rattle.stats_by_class.proofs.reserved_by_class.Goals as goal
use Rattle.stats_by_class.proofs.reserved_by_class.Goals.{then-l, else-l}

pub loop-j-init : goal.loop-j-init
loop-j-init c = summed-none _ _

pub loop-j-preserved : goal.loop-j-preserved
unfolding held_on
loop-j-preserved c =
    let l = c.load-l in
    let k = c.load-k in
    let x : c.if-l.free ≡ pick l.result.present l.result.free 0 = elim c.if-l.branch [
      | then-l w ↦ rw w.if-l.true w.free-is
      | else-l w ↦ rw w.if-l.false w.free-is
    ] in
    let few : c.if-l.free ≤ 2 ^ 19 = elim c.if-l.branch [
      | then-l w ↦ omega arith
      | else-l w ↦ omega arith
    ] in
    summed-more _ _ _ _ _ _ k.ensures.1.1 few (λ i. rw (x, ← l.ensures.0, ← k.ensures.0) (both-picked l.result.present (eqb k.result.class i) l.result.free)) c.loop-j.invariant
