-- `drain_body::drain_local` meets its contract. Assumes nothing.
use Rattle.drain_body.specs.Loops.{drain_one}
use Rattle.tree_returns.specs.Returned.{local-returned, returned-alone}
use Rattle.rules_calls.specs.State.{on_swap, with_locals, with_trees}
use Rattle.drain_body.proofs.drain_local.Goals as goal

pub returns : goal.returns
unfolding drain_one on_swap with_trees with_locals
returns c =
    λ b.
    rw (
      ← c.clear-l.ensures.0,
      local-returned _ _ _ _ _ _,
      ← c.unreserve_local.ensures,
      returned-alone _ _ _,
    )
