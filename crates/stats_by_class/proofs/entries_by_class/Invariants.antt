-- `stats_by_class::entries_by_class`: the sums by class over the entries passed. Assumes nothing.
use Prim.Native.Nat.{◌^◌}
use Rattle.stats_by_class.specs.Sums.{free_at, alloc_at, tree_at, Summed}
use Rattle.stats_by_class.proofs.entries_by_class.Given as goal

abbrev pub invariant-loop-t : goal.invariant-loop-t
invariant-loop-t l = record {
  free : Summed (free_at l.trees) (2 ^ 28) l.free l.t;
  alloc : Summed (alloc_at 11 l.trees) 2048 l.alloc l.t;
  trees : Summed (tree_at l.trees) 1 l.count l.t;
}
