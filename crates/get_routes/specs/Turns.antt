-- The routes of a get with no name as they are asked in turn, by their answers: laws of `search_trees` and `routes`. Assumes nothing.
use Rattle.std.specs.Prelude.{◌≡◌, Bool, true, false, ℕ, Option, Some, None}
use Rattle.rules.specs.Base.{ifte, out}
use Rattle.rules.specs.Words.{Config, slot}
use Rattle.rules.specs.declared.Request.{Request}
use Rattle.rules_calls.specs.declared.Got.{Got}
use Rattle.rules_calls.specs.State.{State, Way, index_of}
use Rattle.rules_calls.specs.FromLocals.{get_local}
use Rattle.rules_calls.specs.Search.{search_and_reserve, search_and_steal}
use Rattle.rules_calls.specs.Get.{last_routes, start_tree, get_reserving, search_trees, get_any, routes}
use Rattle.get_ends.specs.Ends.{ends, else-ends, else-goes}
use Rattle.get_routes.specs.Start.{start_after, from-ends, from_goes}
use Rattle.get_routes.specs.Turn.{reserving, trees-turn}

-- the search with no name: it steals; or the own local ends it; or it reserves
module _ (c : Config) (q : Request) (local : Option ℕ) (s : State) {i start : ℕ} {b : Bool}
    (at : i ≡ index_of local) (begin : start ≡ start_tree c q (Some i)) (turn : b ≡ reserving c q local) where
  pub turn-steals : {w : Way} → b ≡ false → w ≡ search_and_steal c q start s → w ≡ search_trees c q local s
  unfolding ifte
  turn-steals e h = rw (trees-turn _ _ _ _, ← turn, e, ← at, ← begin) h

  module _ {j : ℕ} {g : Got} {s1 : State} (yes : b ≡ true) (place : j ≡ slot c.places q.class i) (own : out g s1 ≡ get_local 1 c q None j s) where
    pub turn-own : ends g ≡ true → out g s1 ≡ search_trees c q local s
    unfolding ifte get_reserving
    turn-own e = rw (trees-turn _ _ _ _, ← turn, yes, ← at, ← place, ← own, from-ends _ _ _ _ e)

    pub turn-reserves : {from : ℕ} {w : Way} → ends g ≡ false → from ≡ start_after start g → w ≡ search_and_reserve c q j from s1 → w ≡ search_trees c q local s
    unfolding ifte get_reserving
    turn-reserves e after h = rw (trees-turn _ _ _ _, ← turn, yes, ← at, ← begin, ← place, ← own, from_goes _ _ _ _ e, ← after) h

-- with no name: the search, then the last routes
module _ (c : Config) (q : Request) (name : Option ℕ) (s : State) {g : Got} {s1 : State} (none : name ≡ None) (found : out g s1 ≡ search_trees c q q.local s) where
  pub asked-ends : ends g ≡ true → out g s1 ≡ routes c q name s
  unfolding routes get_any
  asked-ends e = rw (none, ← found, else-ends _ _ _ e)

  pub asked-last : {w : Way} → ends g ≡ false → w ≡ last_routes c q name s1 → w ≡ routes c q name s
  unfolding routes get_any
  asked-last e h = rw (none, ← found, else-goes _ _ _ e, ← none) h
