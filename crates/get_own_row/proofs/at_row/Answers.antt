-- `get_own_row::at_row` meets its contract. Assumes nothing.
use native.Mathlib.Omega.{arith}
use Rattle.get_own_row.specs.Own.{row-found, row-refused}
use Rattle.get_own_row.proofs.at_row.Goals as goal

pub returns-in-Some : goal.returns-in-Some
returns-in-Some c = (
  row-found _ _ _ _ _ _
      c.lower_get.ensures
      c.in-Some.is
      c.set_start.ensures
      (c.done.ensures.0 _ _ _),
  rw c.done.ensures.1 (omega arith),
)

pub returns-in-None : goal.returns-in-None
returns-in-None c = (
  row-refused _ _ _ _ _ _
      c.lower_get.ensures
      c.in-None.is
      c.size.ensures.0
      c.put.ensures
      (c.missed_at.ensures.0 _ _ _),
  rw c.missed_at.ensures.1 (omega arith),
)
