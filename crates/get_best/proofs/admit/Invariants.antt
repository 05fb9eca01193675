-- `get_best::admit` meets its contract: the loop keeps what the insertion from its place on makes of the words. Assumes nothing.
use mathlib.Core.Path.{◌≡◌}
use mathlib.Core.Bool.{false}
use Prim.Native.Nat.{◌-◌, ◌+◌, ◌*◌, ◌^◌}
use lib.ListN.{length}
use Rattle.get_best.specs.Insertion.{inserted, inserted_from}
use Rattle.get_best.proofs.admit.Given as goal

abbrev pub invariant-loop-k : goal.invariant-loop-k
invariant-loop-k l = record {
  places : length l.s ≡ 8;
  rest : inserted_from l.k (l.m - l.k) l.inside l.moving l.s ≡ inserted l.m false (l.key * 2 ^ 32 + l.t) l.initial.s;
}
