-- `get_try_list::try_list` meets its contract: at each turn the list from here is the list from the start. Assumes nothing.
use mathlib.Core.Path.{◌≡◌}
use Prim.Native.Nat.{◌+◌, ◌≤◌}
use lib.ListN.{length}
use Rattle.rules.specs.Words.{config}
use Rattle.rules_calls.specs.State.{st}
use Rattle.rules_calls.specs.Walking.{try_list}
use Rattle.get_best.specs.List.{list_of, list_from}
use Rattle.get_try_list.proofs.try_list.Given as goal

abbrev pub invariant-loop-x : goal.invariant-loop-x
invariant-loop-x l =
    record {
      seen_most : l.so_far.looks ≤ l.fn.counts.looks;
      asked-most : l.so_far.tries ≤ l.fn.counts.tries + l.x-index;
      long : length l.x-items ≡ l.m;
      same-list : try_list (config l.a.h l.table) l.a.q l.w l.j (list_from l.x-index l.m l.x-items) (st l.trees l.locals l.bits l.so_far.looks l.so_far.tries)
          ≡ try_list (config l.a.h l.table) l.a.q l.w l.j (list_of l.m l.fn.best) (st l.initial.trees l.initial.locals l.initial.bits l.fn.counts.looks l.fn.counts.tries);
    }
