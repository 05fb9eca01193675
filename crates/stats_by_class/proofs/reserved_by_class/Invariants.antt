-- `stats_by_class::reserved_by_class`: the sums by class over the locals passed. Assumes nothing.
use Prim.Native.Nat.{◌^◌}
use Rattle.stats_by_class.specs.Sums.{held_on, Summed}
use Rattle.stats_by_class.proofs.reserved_by_class.Given as goal

abbrev pub invariant-loop-j : goal.invariant-loop-j
invariant-loop-j l = Summed (held_on 11 l.trees l.locals) (2 ^ 19) l.free l.j
