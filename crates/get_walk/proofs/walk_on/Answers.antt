-- What the goals of `get_walk::walk_on` follow from. Assumes nothing.
use mathlib.Core.Path.{refl}
use native.Mathlib.Omega.{arith}
use Rattle.rules_calls.specs.State.{st, with_look}
use Rattle.get_walk.specs.Walked.{walk-passed}
use Rattle.get_walk.proofs.walk_on.Goals as goal

pub loop-k-preserved : goal.loop-k-preserved
unfolding with_look
loop-k-preserved c =
    let l = rw c.loop-k.invariant.here at c.loop-k.invariant.walked in
    let t = c.loop-k-test.true in
    let p = c.walk_tree-t.ensures.0 in
    let d = c.load-e.ensures.0 in
    let v = c.rate-r.ensures.0 in
    record {
      here = refl;
      walked = record {
        same = λ h j ls bs tries.
            rw (walk-passed _ _ _ j _ _ _ _ _ _ (st _ ls bs _ tries) _ _ _ t p d (v h) c.if-r-eq258.false, ← c.offer-s.ensures) at (l.same h j ls bs tries);
        low = omega (arith, l.low);
        high = omega (arith, l.high, t);
        most = omega (arith, l.most, l.low);
      };
    }
