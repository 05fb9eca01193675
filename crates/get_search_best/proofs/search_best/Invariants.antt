-- `get_search_best::search_best` meets its contract: at each turn the walk from here is the walk from the start; a tree that ends it ends the search, else the
-- list is tried. Assumes nothing.
use mathlib.Core.Path.{◌≡◌}
use Prim.Native.Nat.{◌-◌, ◌+◌, ◌<◌, ◌≤◌}
use mathlib.Core.List.{[]}
use Rattle.rules.specs.Words.{config, entry_at}
use Rattle.rules_calls.specs.State.{st}
use Rattle.rules_calls.specs.Walking.{walk_tree, rate, walk}
use Rattle.get_best.specs.List.{list_of}
use Rattle.get_search_best.proofs.search_best.Given as goal

abbrev pub invariant-loop-s : goal.invariant-loop-s
invariant-loop-s l =
    record {
      low : l.p.first ≤ l.s.at;
      high : l.s.at ≤ l.p.first + (l.p.last - l.p.first);
      seen_most : l.s.looks ≤ l.fn.counts.looks + (l.s.at - l.p.first);
      asked-most : l.tries ≤ l.fn.counts.tries + (l.s.at - l.p.first);
      walked : walk (config l.a.h l.table) l.a.q l.w l.j l.p.m l.p.n l.p.start l.s.at l.p.last (list_of l.p.m l.s.best) (st l.trees l.locals l.bits l.s.looks l.tries)
          ≡ walk (config l.a.h l.table) l.a.q l.w l.j l.p.m l.p.n l.p.start l.p.first l.p.last [] (st l.initial.trees l.initial.locals l.initial.bits l.fn.counts.looks l.fn.counts.tries);
      next : l.s.at < l.p.last → rate (config l.a.h l.table) l.a.q l.w (entry_at l.trees (walk_tree l.p.n l.p.start l.s.at)) ≡ 258;
    }

abbrev pub decreases-loop-s : goal.decreases-loop-s
decreases-loop-s l = l.p.last - l.s.at
