-- `c_bench::bench_clear` is safe and ends. Assumes nothing.
use Rattle.std.proofs.Common.{◌-◌}
use Rattle.c_bench.proofs.bench_clear.Given as goal

abbrev pub invariant-loop-t : goal.invariant-loop-t
invariant-loop-t l = Unit {0}

abbrev pub decreases-loop-t : goal.decreases-loop-t
decreases-loop-t l = l.n - l.t
