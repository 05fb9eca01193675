-- `put_body::put_to` meets its contract. Assumes nothing.
use Rattle.rules_calls.specs.State.{index_of}
use Rattle.put_body.specs.PutTo.{to-entry, to-local, past-local}
use native.Mathlib.Omega.{arith}
use Rattle.put_body.proofs.put_to.Goals.{in-Some+else-put, in_default}
use Rattle.put_body.proofs.put_to.Goals as goal

pub slot-j-requires : goal.slot-j-requires
unfolding index_of
slot-j-requires c =
    let l = rw c.in-Some.is at c.requires in
    omega arith

pub returns-then-put : goal.returns-then-put
returns-then-put c =
    λ b.
    to-local _ _ _ _ _ _
    c.size-n.ensures.0
    c.in-Some.is
    c.slot-j.ensures
    c.put.ensures
    c.if-put.true

pub returns : goal.returns
returns c =
    λ b.
    elim c.match-local.branch [
      | in-Some+else-put w ↦ rw w.locals-is
          (past-local _ _ _ _ _ _
          c.size-n.ensures.0
          w.in-Some.is
          w.slot-j.ensures
          w.put.ensures
          w.if-put.false
          c.put-2.ensures)
      | in_default w ↦ rw w.locals-is
          (to-entry _ _ _ _ _ _
          c.size-n.ensures.0
          w.in_default.is
          c.put-2.ensures)
    ]
