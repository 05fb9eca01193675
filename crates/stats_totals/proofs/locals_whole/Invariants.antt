-- `stats_totals::locals_whole`: the sums over what was passed, and their bounds. Assumes nothing.
use mathlib.Core.Path.{◌≡◌}
use Prim.Native.Nat.{◌*◌, ◌≤◌}
use Rattle.stats_totals.specs.Wholes.{locals_free, locals_whole}
use Rattle.stats_totals.proofs.locals_whole.Given as goal

abbrev pub invariant-loop-j : goal.invariant-loop-j
invariant-loop-j l = record {
  few : l.free ≤ 524288 * l.j;
  fewer : l.whole ≤ l.free;
  free : l.free ≡ locals_free l.locals l.j;
  whole : l.whole ≡ locals_whole 11 l.locals l.j;
}
