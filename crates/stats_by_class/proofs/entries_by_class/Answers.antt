-- One entry more, in the sums of its class. Assumes nothing.
use native.Mathlib.Omega.{arith}
use Rattle.stats_by_class.specs.Sums.{free_at, alloc_at, tree_at, summed-none, summed-more}
use Rattle.stats_by_class.proofs.entries_by_class.Goals as goal

pub loop-t-init : goal.loop-t-init
loop-t-init c = record { free = summed-none _ _; alloc = summed-none _ _; trees = summed-none _ _ }

pub loop-t-preserved : goal.loop-t-preserved
unfolding free_at alloc_at tree_at
loop-t-preserved c =
    let e = c.load-e.ensures in
    let i = c.loop-t.invariant in
    record {
      free = summed-more _ _ _ _ _ _ e.1.1 (omega arith) (λ k. rw (← e.0)) i.free;
      alloc = summed-more _ _ _ _ _ _ e.1.1 (omega arith) (λ k. rw (← e.0, ← c.saturating_sub.ensures)) i.alloc;
      trees = summed-more _ _ _ _ _ _ e.1.1 (omega arith) (λ k. rw (← e.0)) i.trees;
    }
