-- `get_last::last_routes` meets its contract. Assumes nothing.
use Rattle.get_last.specs.Paid.{last-ends, last_goes}
use mathlib.Core.Path.{sym, ◌∙◌}
use native.Mathlib.Omega.{arith}
use Rattle.get_last.proofs.last_routes.Goals as goal

pub returns-then-ends : goal.returns-then-ends
returns-then-ends c = (
  last-ends _ _ _ _
      c.steal_local-r.ensures.0
      (sym c.ends.ensures ∙ c.if-ends.true),
  omega (arith, c.steal_local-r.ensures.1),
)

pub returns : goal.returns
returns c = (
  last_goes _ _ _ _
      c.steal_local-r.ensures.0
      (sym c.ends.ensures ∙ c.if-ends.false)
      c.demote_local.ensures.0,
  omega (arith, c.demote_local.ensures.1, c.steal_local-r.ensures.1),
)
