-- 01, The routes of get, in their order. Assumes nothing.
use Rattle.std.specs.Prelude.{ℕ, ◌*◌, ◌/◌, eqb, ltb, Option, Some, None}
use Rattle.rules.specs.Base.{pick, ifte, out}
use Rattle.rules.specs.Words.{Config, tree_frames, trees_of, locals_of, slot}
use Rattle.rules.specs.declared.Request.{Request}
use Rattle.rules_calls.specs.declared.Got.{Got}
use Rattle.rules_calls.specs.State.{State, Way, or_else}
use Rattle.rules_calls.specs.FromLocals.{get_local, own_local, steal_local, demote_local}
use Rattle.rules_calls.specs.Walking.{steal_global}
use Rattle.rules_calls.specs.Search.{search_and_reserve, search_and_steal}

-- steal from locals, then demote
unfoldable pub last_routes : Config → Request → Option ℕ → State → Way
last_routes c q name s = or_else (steal_local c q name s) (demote_local c q name)

-- named frame: own local if given; steal globally from its tree; steal from locals; demote
unfoldable pub get_at : Config → Request → ℕ → State → Way
get_at c q f s =
    or_else (own_local c q (Some f) q.local s)
    (λ s1. or_else (steal_global c q (Some f) (f / tree_frames c.tree_order) s1)
    (last_routes c q (Some f)))

-- the start tree is (n / locals, rounded down) times the local, or 0 with no local or no locals
unfoldable pub start_tree : Config → Request → Option ℕ → ℕ
start_tree c q (Some i) = pick (eqb (locals_of c.places q.class) 0) 0 (trees_of c / locals_of c.places q.class * i)
start_tree c q None = 0

-- the next route is asked where this one came back empty; a present own reservation that failed gives its tree as the start
unfoldable pub or_from : ℕ → Way → (ℕ → State → Way) → Way
or_from start (out (Got.Done f k) s) next = out (Got.Done f k) s
or_from start (out Got.Missed s) next = next start s
or_from start (out (Got.MissedAt t) s) next = next t s
or_from start (out Got.Stuck s) next = out Got.Stuck s

-- own local, then reserving search
unfoldable pub get_reserving : Config → Request → ℕ → ℕ → State → Way
get_reserving c q j start s =
    or_from start (get_local 1 c q None j s) (λ from s1. search_and_reserve c q j from s1)

-- if a local is given and the class has fewer locals than n, own local, then reserving search; else stealing search
unfoldable pub search_trees : Config → Request → Option ℕ → State → Way
search_trees c q (Some i) s =
    ifte (ltb (locals_of c.places q.class) (trees_of c))
    (λ _. get_reserving c q (slot c.places q.class i) (start_tree c q (Some i)) s)
    (λ _. search_and_steal c q (start_tree c q (Some i)) s)
search_trees c q None s = search_and_steal c q (start_tree c q None) s

-- no name: the search, then steal from locals, then demote
unfoldable pub get_any : Config → Request → State → Way
get_any c q s = or_else (search_trees c q q.local s) (last_routes c q None)

-- with no name, or with a named frame
unfoldable pub routes : Config → Request → Option ℕ → State → Way
routes c q None s = get_any c q s
routes c q (Some f) s = get_at c q f s
