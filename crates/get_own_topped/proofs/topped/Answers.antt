-- `get_own_topped::topped` meets its contract. Assumes nothing.
use Rattle.get_own_topped.specs.Topped.{topped-past, topped-nothing, topped-took, topped-refused}
use Rattle.get_own_topped.proofs.topped.Goals as goal

pub returns-then-n-free : goal.returns-then-n-free
returns-then-n-free c = λ b looks tries. topped-past _ _ _ _ _ _ _ _ _ _ c.if-n-free.true

pub returns-in_default : goal.returns-in_default
returns-in_default c =
    λ b looks tries.
    topped-nothing _ _ _ _ _ _ _ _ _ _
    c.if-n-free.false
    c.sync.ensures
    c.in_default.is

pub returns-then-not-taken : goal.returns-then-not-taken
returns-then-not-taken c =
    λ b looks tries.
    rw c.if-not-taken.true
    (topped-refused _ _ _ _ _ _ _ _ _ _
    c.if-n-free.false
    c.sync.ensures
    c.in-Some.is
    c.put-taken.ensures
    c.if-not-taken.true
    c.put.ensures)

pub returns-else-not-taken : goal.returns-else-not-taken
returns-else-not-taken c =
    λ b looks tries.
    rw c.if-not-taken.false
    (topped-took _ _ _ _ _ _ _ _ _ _
    c.if-n-free.false
    c.sync.ensures
    c.in-Some.is
    c.put-taken.ensures
    c.if-not-taken.false)
