-- `stats_rows::local_free`: the sum over the locals passed, and its bound. Assumes nothing.
use mathlib.Core.Path.{◌≡◌}
use Prim.Native.Nat.{◌*◌, ◌≤◌}
use Rattle.stats_rows.specs.Rows.{free_from}
use Rattle.stats_rows.proofs.local_free.Given as goal

abbrev pub invariant-loop-i : goal.invariant-loop-i
invariant-loop-i l = record { few : l.free ≤ 524288 * l.i; free : l.free ≡ free_from l.locals l.first l.i }
