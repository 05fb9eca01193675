-- `get_search::search_and_reserve` meets its contract. Assumes nothing.
use Rattle.get_search.specs.Near.{near-ends, near-goes}
use mathlib.Core.Path.{sym, ◌∙◌}
use native.Mathlib.Omega.{arith}
use Rattle.get_search.proofs.search_and_reserve.Goals as goal

pub returns-then-ends : goal.returns-then-ends
returns-then-ends c = (
  near-ends _ _ _ _ _
      c.tree_count-n.ensures.0
      c.rounded_start-from.ensures.0
      c.search_near-r.ensures.0
      (sym c.ends.ensures ∙ c.if-ends.true),
  omega (arith, c.search_near-r.ensures.1),
)

pub returns : goal.returns
returns c = (
  near-goes _ _ _ _ _
      c.tree_count-n.ensures.0
      c.rounded_start-from.ensures.0
      c.search_near-r.ensures.0
      (sym c.ends.ensures ∙ c.if-ends.false)
      c.search_all.ensures.0,
  omega (arith, c.search_all.ensures.1, c.search_near-r.ensures.1),
)
