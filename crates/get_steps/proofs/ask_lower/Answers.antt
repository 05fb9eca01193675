-- `get_steps::ask_lower` meets its contract. Assumes nothing.
use native.Mathlib.Omega.{arith}
use Rattle.get_steps.specs.LowerAsked.{lower-found, lower-refused}
use Rattle.get_steps.proofs.ask_lower.Goals as goal

pub returns-in-Some : goal.returns-in-Some
returns-in-Some c = (
  λ l.
      lower-found _ _ _ _ _ _ _
      c.lower_get.ensures
      c.in-Some.is
      (c.done.ensures.0 _ _ _),
  rw c.done.ensures.1 (omega arith),
)

pub returns-in-None : goal.returns-in-None
returns-in-None c = (
  λ l.
      lower-refused _ _ _ _ _ _ _
      c.lower_get.ensures
      c.in-None.is
      c.size.ensures.0
      c.put.ensures
      (c.missed.ensures.0 _ _ _),
  rw c.missed.ensures.1 (omega arith),
)
