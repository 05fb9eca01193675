-- `local_first::first_local` meets its contract. The loop's invariant: `j` is the slot that is d further than the given index, and none before it has enough.
-- Assumes nothing.
use Rattle.std.proofs.Common.{None}
use mathlib.Core.Path.{◌≡◌}
use Rattle.rules.specs.Base.{first_in}
use Rattle.local_first.specs.Round.{enough, round}
use Rattle.local_first.proofs.first_local.Given as goal

abbrev pub invariant-loop-d : goal.invariant-loop-d
invariant-loop-d l = record {
  slot : l.j ≡ round l.first l.len l.from l.d;
  none : first_in (enough 11 l.locals l.first l.len l.from l.name l.n) 0 l.d ≡ None;
}
