-- What the goals of `drain_body::drain_class` follow from. Assumes nothing.
use mathlib.Core.Path.{◌≡◌, refl, ◌∙◌}
use Prim.Native.Nat.{◌-◌}
use native.Mathlib.Omega.{arith}
use borrow.Author.Rules.{rules}
use Rattle.drain_body.specs.Loops.{locals-end, locals-stuck, locals-next}
use Rattle.drain_body.proofs.drain_class.Goals as goal

pub loop-i-init : goal.loop-i-init
loop-i-init c = let e : c.locals_of-n.result - 0 ≡ c.locals_of-n.result = omega arith in (refl, (refl, λ b. rw e))

pub returns-then-not-drain_local : goal.returns-then-not-drain_local
returns-then-not-drain_local c =
    λ b.
    rw (← c.locals_of-n.ensures.0)
    (locals-stuck _ _ _ _ _ _ c.loop-i-test.true
    c.first_slot-first.ensures.0
    (c.drain_local.ensures b)
    c.if-not-drain_local.true
    ∙ c.loop-i.invariant.1.1 b)

pub loop-i-preserved : goal.loop-i-preserved
loop-i-preserved c = (
  search rules,
  (
    search rules,
    λ b.
        locals-next _ _ _ _ _ _ c.loop-i-test.true
        c.first_slot-first.ensures.0
        (c.drain_local.ensures b)
        c.if-not-drain_local.false
        ∙ c.loop-i.invariant.1.1 b,
  ),
)

pub returns : goal.returns
returns c =
    λ b.
    rw (
      ← c.locals_of-n.ensures.0,
      ← c.loop-i.invariant.1.1 b,
      locals-end _ _ _ _ _ c.loop-i-test.false,
    )
