-- `get_demote::demote_local` meets its contract. Assumes nothing.
use native.Mathlib.Omega.{arith}
use Rattle.get_demote.specs.Demoted.{nobody, leaves}
use Rattle.get_demote.proofs.demote_local.Goals as goal

pub returns-in_default : goal.returns-in_default
returns-in_default c = (
  nobody _ _ _ _
      c.index_of-i.ensures
      c.size-n.ensures.0
      c.demote_any.ensures
      c.in_default.is
      (c.missed.ensures.0 _ _ _),
  rw c.missed.ensures.1 (omega arith),
)

pub returns : goal.returns
returns c = (
  leaves _ _ _ _
      c.index_of-i.ensures
      c.size-n.ensures.0
      c.demote_any.ensures
      c.in-Some.is
      (c.pay.ensures _)
      c.clear-l.ensures.0
      c.demote_to.ensures.0,
  c.demote_to.ensures.1,
)
