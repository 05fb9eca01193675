-- `get_reserved::reserved` meets its contract. Assumes nothing.
use Rattle.get_reserved.specs.Reserved.{reserved-stored, reserved-undone}
use native.Mathlib.Omega.{arith}
use Rattle.get_reserved.proofs.reserved.Goals as goal

pub returns-in-Some : goal.returns-in-Some
returns-in-Some c = (
  reserved-stored _ _ _ _ _ _
      c.lower_get.ensures
      c.done.ensures.1
      c.in-Some.is
      c.size.ensures.0
      c.less-free.ensures.0
      c.reservation.ensures
      c.swap-l.ensures.0
      c.unreserve_local-back.ensures
      (c.done.ensures.0 _ _ _)
      (c.or_stuck.ensures.0 _ _ _),
  rw (c.or_stuck.ensures.1, c.done.ensures.1) (omega arith),
)

pub returns-in-None : goal.returns-in-None
returns-in-None c = (
  reserved-undone _ _ _ _ _ _
      c.lower_get.ensures
      c.missed.ensures.1
      c.in-None.is
      c.unreserve-back.ensures
      (c.missed.ensures.0 _ _ _)
      (c.or_stuck-in-None.ensures.0 _ _ _),
  rw (c.or_stuck-in-None.ensures.1, c.missed.ensures.1) (omega arith),
)
