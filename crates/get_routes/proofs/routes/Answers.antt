-- `get_routes::routes` meets its contract. Assumes nothing.
use Rattle.get_routes.specs.Turns.{asked-ends, asked-last}
use Rattle.rules_calls.specs.Get.{routes}
use mathlib.Core.Path.{sym, ◌∙◌}
use Rattle.get_routes.proofs.routes.Goals as goal

pub returns-in-Some : goal.returns-in-Some
unfolding routes
returns-in-Some c = rw c.in-Some.is c.get_at.ensures.0

pub returns-then-ends : goal.returns-then-ends
returns-then-ends c =
    asked-ends _ _ _ _
    c.in_default.is
    c.search_trees-r.ensures.0
    (sym c.ends.ensures ∙ c.if-ends.true)

pub returns : goal.returns
returns c =
    asked-last _ _ _ _
    c.in_default.is
    c.search_trees-r.ensures.0
    (sym c.ends.ensures ∙ c.if-ends.false)
    c.last_routes.ensures.0
