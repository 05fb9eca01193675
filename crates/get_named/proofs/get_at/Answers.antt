-- `get_named::get_at` meets its contract. Assumes nothing.
use Rattle.get_named.specs.AtFrame.{at_own, at-tree, at_last}
use mathlib.Core.Path.{refl, sym, ◌∙◌}
use native.Mathlib.Omega.{arith}
use Rattle.get_named.proofs.get_at.Goals as goal

pub returns-then-ends : goal.returns-then-ends
returns-then-ends c = (
  at_own _ _ _ _
      c.own_local-own.ensures.0
      (sym c.ends.ensures ∙ c.if-ends.true),
  omega (arith, c.own_local-own.ensures.1),
)

pub returns-then-ends-2 : goal.returns-then-ends-2
returns-then-ends-2 c = (
  at-tree _ _ _ _
      c.own_local-own.ensures.0
      (sym c.ends.ensures ∙ c.if-ends.false)
      c.steal_global-r.ensures.0
      refl
      (sym c.ends-2.ensures ∙ c.if-ends-2.true),
  omega (arith, c.own_local-own.ensures.1, c.steal_global-r.ensures.1),
)

pub returns : goal.returns
returns c = (
  at_last _ _ _ _
      c.own_local-own.ensures.0
      (sym c.ends.ensures ∙ c.if-ends.false)
      c.steal_global-r.ensures.0
      refl
      (sym c.ends-2.ensures ∙ c.if-ends-2.false)
      c.last_routes.ensures.0,
  omega (arith, c.own_local-own.ensures.1, c.steal_global-r.ensures.1, c.last_routes.ensures.1),
)
