-- `get_routes::search_trees` meets its contract. Assumes nothing.
use mathlib.Core.Path.{sym, ◌∙◌}
use Rattle.get_routes.specs.Turns.{turn-steals, turn-own, turn-reserves}
use Rattle.get_routes.specs.Start.{start_small}
use native.Mathlib.Omega.{arith}
use Rattle.get_routes.proofs.search_trees.Goals as goal

pub returns-then-not-is_reserving : goal.returns-then-not-is_reserving
returns-then-not-is_reserving c = (
  turn-steals _ _ _ _
      c.index_of-i.ensures
      (c.start_tree-start.ensures.0 _)
      (c.is_reserving.ensures _)
      c.if-not-is_reserving.true
      c.search_and_steal.ensures.0,
  omega (arith, c.search_and_steal.ensures.1),
)

pub returns-then-ends : goal.returns-then-ends
returns-then-ends c = (
  turn-own _ _ _ _
      c.index_of-i.ensures
      (c.start_tree-start.ensures.0 _)
      (c.is_reserving.ensures _)
      c.if-not-is_reserving.false
      c.slot-j.ensures
      c.get_local-own.ensures.0
      (sym c.ends.ensures ∙ c.if-ends.true),
  omega (arith, c.get_local-own.ensures.1),
)

pub search_and_reserve-requires : goal.search_and_reserve-requires
search_and_reserve-requires c = let g = c.get_local-own.ensures in
    let s = start_small _ _ _ _ _ c.args.a.fits.order _ _ _ _ _ g.0 c.start_tree-start.ensures.1 in
    (rw c.start_after-from.ensures s, omega (arith, g.1))

pub returns : goal.returns
returns c = (
  turn-reserves _ _ _ _
      c.index_of-i.ensures
      (c.start_tree-start.ensures.0 _)
      (c.is_reserving.ensures _)
      c.if-not-is_reserving.false
      c.slot-j.ensures
      c.get_local-own.ensures.0
      (sym c.ends.ensures ∙ c.if-ends.false)
      c.start_after-from.ensures
      c.search_and_reserve.ensures.0,
  omega (arith, c.search_and_reserve.ensures.1, c.get_local-own.ensures.1),
)
