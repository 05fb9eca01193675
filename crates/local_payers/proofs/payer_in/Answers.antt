-- What the goals of `local_payers::payer_in` follow from. Assumes nothing.
use mathlib.Core.Path.{sym, ◌∙◌}
use Rattle.local_payers.specs.Loops.{passes, payer-end, pays}
use Rattle.local_payers.proofs.payer_in.Goals as goal

pub returns-in-Some : goal.returns-in-Some
returns-in-Some g c =
    λ p same. sym c.in-Some.is ∙ pays _ _ _ _ _ _ _ _
    (c.loop-d.invariant p same)
    c.loop-d-test.true
    (c.payer_at.ensures p same)
    c.in-Some.is

pub loop-d-preserved : goal.loop-d-preserved
loop-d-preserved g c =
    λ p same. passes _ _ _ _ _ _ _ _
    (c.loop-d.invariant p same)
    c.loop-d-test.true
    (c.payer_at.ensures p same)
    c.in_default.is

pub returns : goal.returns
returns g c = λ p same. payer-end _ _ _ _ _ _ _ _ (c.loop-d.invariant p same) c.loop-d-test.false
