-- Whether a get with no name reserves or steals, as a test. Assumes nothing.
use Rattle.std.specs.Prelude.{◌≡◌, refl, Bool, true, false, ℕ, ◌*◌, ◌/◌, eqb, ltb, Option, Some, None}
use Rattle.std.proofs.Common.{arith}
use Rattle.std.specs.Option.{is_some}
use Rattle.rules.specs.Base.{pick, both, ifte}
use Rattle.rules.specs.Words.{Config, trees_of, locals_of, slot}
use Rattle.rules.specs.declared.Request.{Request}
use Rattle.rules_calls.specs.State.{State, index_of}
use Rattle.rules_calls.specs.Get.{start_tree, get_reserving, search_trees}
use Rattle.rules_calls.specs.Search.{search_and_steal}

-- a local is given, and its class has fewer locals than there are trees
unfoldable pub reserving : Config → Request → Option ℕ → Bool
reserving c q (Some i) = ltb (locals_of c.places q.class) (trees_of c)
reserving c q None = false

-- as the code asks it
pub reserving_asked : (c : Config) (q : Request) (g : Option ℕ) → reserving c q g ≡ both (is_some g) (ltb (locals_of c.places q.class) (trees_of c))
unfolding reserving
reserving_asked c q (Some i) = refl
reserving_asked c q None = refl

-- with no index the start tree is 0
none : (b : Bool) (x : ℕ) → 0 ≡ pick b 0 (x * 0)
none true x = refl
none false x = omega arith

pub trees-turn : (c : Config) (q : Request) (g : Option ℕ) (s : State) → search_trees c q g s
    ≡ ifte (reserving c q g)
    (λ _. get_reserving c q (slot c.places q.class (index_of g)) (start_tree c q (Some (index_of g))) s)
    (λ _. search_and_steal c q (start_tree c q (Some (index_of g))) s)
unfolding search_trees reserving index_of start_tree ifte
trees-turn c q (Some i) s = refl
trees-turn c q None s = rw (← none (eqb (locals_of c.places q.class) 0) (trees_of c / locals_of c.places q.class))
