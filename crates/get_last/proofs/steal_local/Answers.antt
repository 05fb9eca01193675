-- `get_last::steal_local` meets its contract. Assumes nothing.
use Rattle.get_last.specs.Paid.{pay-nobody, pay-row}
use mathlib.Core.Path.{refl}
use native.Mathlib.Omega.{arith}
use Rattle.get_last.proofs.steal_local.Goals as goal

pub returns-in_default : goal.returns-in_default
returns-in_default c = (
  pay-nobody _ _ _ _
      c.index_of-i.ensures
      c.size-n.ensures.0
      c.steal_any.ensures
      c.in_default.is
      (c.missed.ensures.0 _ _ _),
  rw c.missed.ensures.1 (omega arith),
)

pub returns : goal.returns
returns c = (
  pay-row _ _ _ _
      c.index_of-i.ensures
      c.size-n.ensures.0
      c.steal_any.ensures
      c.in-Some.is
      (c.pay-row.ensures _)
      (c.ask_lower.ensures.0 _)
      refl,
  c.ask_lower.ensures.1,
)
