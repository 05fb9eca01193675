-- What the goals of `local_first::first_local` follow from. Assumes nothing.
use mathlib.Core.Path.{◌≡◌, refl, sym, ◌∙◌}
use Prim.Native.Nat.{◌+◌, ◌<◌}
use native.Mathlib.Omega.{arith}
use Rattle.rules.specs.Base.{first_in}
use Rattle.law_rules.specs.First.{first_more}
use Rattle.local_first.specs.Round.{enough, payer-nobody, payer-here, round-first, round-lt, round-next}
use Rattle.local_first.proofs.first_local.Goals as goal

pub returns-then-len-eq0 : goal.returns-then-len-eq0
unfolding first_in
returns-then-len-eq0 c =
    payer-nobody _ _ _ _ _ _ _ _ _ refl c.locals_of-len.ensures.0 (rw c.if-len-eq0.true)

pub loop-d-init : goal.loop-d-init
unfolding first_in
loop-d-init c = record { slot = sym (round-first _ _ _); none = refl }

pub returns-then-has_enough : goal.returns-then-has_enough
unfolding enough
returns-then-has_enough c =
    let l = c.loop-d in
    rw l.invariant.slot
    (payer-here _ _ _ _ _ _ _ _ _ c.first_slot-first.ensures.0 c.locals_of-len.ensures.0 l.d c.loop-d-test.true l.invariant.none
    (rw (← l.invariant.slot, ← c.load.ensures.0, ← c.has_enough.ensures) c.if-has_enough.true))

pub after-j-requires : goal.after-j-requires
after-j-requires c =
    let m : c.loop-d.j < c.first_slot-first.result + c.locals_of-len.result = rw c.loop-d.invariant.slot (round-lt _ _ _ _ (omega arith)) in
    omega (arith, c.first_slot-first.ensures.1, c.locals_of-len.ensures.1)

pub loop-d-preserved : goal.loop-d-preserved
unfolding enough
loop-d-preserved c =
    let l = c.loop-d in
    record {
      slot = c.after-j.ensures ∙ rw l.invariant.slot (round-next _ _ _ _ (omega arith));
      none = first_more _ _ l.invariant.none (rw (← l.invariant.slot, ← c.load.ensures.0, ← c.has_enough.ensures) c.if-has_enough.false);
    }

pub returns : goal.returns
returns c =
    let l = c.loop-d in
    let q : l.d ≡ c.locals_of-len.result = omega arith in
    payer-nobody _ _ _ _ _ _ _ _ _ c.first_slot-first.ensures.0 c.locals_of-len.ensures.0 (rw q at l.invariant.none)
