-- `stats_totals::entries_whole`: the sums over what was passed, and their bounds. Assumes nothing.
use mathlib.Core.Path.{◌≡◌}
use Prim.Native.Nat.{◌*◌, ◌≤◌}
use Rattle.stats_totals.specs.Wholes.{entries_free, entries_whole}
use Rattle.stats_totals.proofs.entries_whole.Given as goal

abbrev pub invariant-loop-t : goal.invariant-loop-t
invariant-loop-t l = record {
  few : l.free ≤ 268435456 * l.t;
  fewer : l.whole ≤ l.free;
  free : l.free ≡ entries_free l.trees l.t;
  whole : l.whole ≡ entries_whole 11 l.trees l.t;
}
