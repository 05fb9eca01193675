-- `get_walk::walk_on` meets its contract: at each turn the walk from here is the walk from the start. Assumes nothing.
use Rattle.std.proofs.Common.{◌≡◌}
use Rattle.get_best.specs.List.{list_of}
use Rattle.get_walk.specs.Walked.{Walked}
use Rattle.get_walk.proofs.walk_on.Given as goal

abbrev pub invariant-loop-k : goal.invariant-loop-k
invariant-loop-k l =
    record {
      here : l.s.at ≡ l.k;
      walked : Walked l.table l.q l.w l.p.m l.p.n l.p.start l.fn.from.at l.p.last (list_of l.p.m l.fn.from.best) l.trees l.fn.from.looks l.s.at (list_of l.p.m l.s.best) l.s.looks;
    }
