-- `tree_returns::unreserve_local` meets its contract. Assumes nothing.
use Rattle.rules.specs.Base.{ifte}
use Rattle.tree_returns.specs.Returned.{returned_local}
use Rattle.tree_returns.proofs.unreserve_local.Goals as goal

pub returns-then-l : goal.returns-then-l
unfolding returned_local ifte
returns-then-l c = rw (
  c.if-l.true,
  ← c.unreserve.ensures,
)

pub returns : goal.returns
unfolding returned_local ifte
returns c = rw c.if-l.false
