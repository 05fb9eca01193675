-- The walks and the searches leave the rules standing. Assumes nothing.
use Rattle.std.specs.Prelude.{◌≡◌, ℕ, ◌+◌, ◌-◌, ◌<◌, ltb, None}
use Rattle.std.proofs.Math.Path.{refl, subst}
use mathlib.Core.List.{List, []}
use Rattle.rules.specs.Base.{Out, out}
use Rattle.rules.specs.Words.{Config, huge_order, trees_of, locals_of, slot}
use Rattle.rules.specs.declared.Request.{Request}
use Rattle.rules_calls.specs.declared.Got.{Got}
use Rattle.rules_calls.specs.declared.Walk.{Walk}
use Rattle.rules_calls.specs.State.{State, with_look}
use Rattle.rules_calls.specs.Walking.{walk_tree, Candidate, access, Sight, sight, visit, walk, try_list, stopped, search_best}
use Rattle.rules_calls.specs.Search.{near, rounded_start, search_far, search_from, search_and_reserve, search_and_steal}
use Rattle.law_rules.specs.Sizes.{Size, first-row}
use Rattle.law_rules.specs.Accepted.{accepted-says, trees-some}
use Rattle.thm_hand.specs.Hand.{Kept}
use Rattle.law_calls.specs.Steps.{ifte-ind}
use Rattle.law_calls.specs.Walks.{walk_tree-lt, Every, every-admit, tried-ind, visit-ind, sight-ind, steps-ind, list-ind}
use Rattle.thm_keeps.specs.Fine.{Fine, Asks, else-fine}
use Rattle.thm_keeps.specs.Steals.{steal_global-fine}
use Rattle.thm_keeps.specs.Reserves.{reserve_or_steal-fine}

-- the slot for which a walk reserves is one of the class; a stealing walk has none
abbrev pub PlaceFor : Config → ℕ → Walk → ℕ → Type 0
PlaceFor c k Walk.Near j = (x : ℕ) × ((x < locals_of c.places k) × (j ≡ slot c.places k x))
PlaceFor c k Walk.Far j = (x : ℕ) × ((x < locals_of c.places k) × (j ≡ slot c.places k x))
PlaceFor c k Walk.Stealing j = Unit {0}

module _ (c : Config) (sz : Size c.tree_order) (q : Request) (A : Asks c q None) where
  -- a tree that a walk has found is tried
  access-fine : (w : Walk) (j : ℕ) → PlaceFor c q.class w j → (t : ℕ) → t < trees_of c → (s : State) → Kept c s.trees s.locals s.bits → Fine c q.order None s.bits (access c q w j t s)
  unfolding access
  access-fine Walk.Near j p t lt s K = rw p.1.1 (reserve_or_steal-fine c sz q A p.0 p.1.0 t lt s K)
  access-fine Walk.Far j p t lt s K = rw p.1.1 (reserve_or_steal-fine c sz q A p.0 p.1.0 t lt s K)
  access-fine Walk.Stealing j p t lt s K = steal_global-fine c sz q None A t lt (first-row c.tree_order sz t) s K

  -- what holds in a walk: the route so far is fine, and the list has trees that exist
  abbrev WalkFine : List ℕ → Out Got Sight → Type 0
  WalkFine b (out g x) = Fine c q.order None b (out g x.state) × Every (λ t. t < trees_of c) x.found

  module _ (w : Walk) (j m : ℕ) (p : PlaceFor c q.class w j) (b : List ℕ) where
    visit-fine : (t : ℕ) → t < trees_of c → (xs : List Candidate) (s : State) → Kept c s.trees s.locals s.bits × (s.bits ≡ b) → Every (λ t. t < trees_of c) xs → WalkFine b (visit c q w j m t xs s)
    unfolding with_look
    visit-fine t lt xs s K E =
        visit-ind (WalkFine b) c q w j m t xs s
        (λ _. tried-ind (Fine c q.order None b) (WalkFine b) xs (access c q w j t (with_look s))
        (subst (λ (d : List ℕ). Fine c q.order None d (access c q w j t (with_look s))) K.1 (access-fine w j p t lt (with_look s) K.0))
        (λ g v F. (F, E)))
        (λ _. (K, E))
        (λ _. (K, every-admit (λ t. t < trees_of c) m _ t lt xs E))

    pub search_best-fine : (start first last : ℕ) (s : State) → Kept c s.trees s.locals s.bits → s.bits ≡ b → Fine c q.order None b (search_best c q w j m (trees_of c) start first last s)
    unfolding search_best walk stopped
    search_best-fine start first last s K e =
        sight-ind (WalkFine b) (Fine c q.order None b) (walk c q w j m (trees_of c) start first last [] s) stopped (try_list c q w j)
        (steps-ind c q w j m (trees_of c) start (λ i xs v. WalkFine b (out Got.Missed (sight xs v))) (λ i v. WalkFine b v) (WalkFine b)
        (λ i xs v I. visit-fine (walk_tree (trees_of c) start i) (walk_tree-lt (trees_of c) start i (trees-some c (accepted-says c K.config))) xs v I.0 I.1)
        (λ i f k x I. I) (λ i x I. I) (λ i t x I. I) (λ i x I. I)
        (last - first) first (first + (last - first)) refl (λ xs v I. I) [] s ((K, e), tt))
        (λ f k x I. I.0)
        (λ x I. list x.found I.1 x.state I.0)
        (λ t x I. list x.found I.1 x.state I.0)
        (λ x I. I.0)
      where
        list : (xs : List Candidate) → Every (λ t. t < trees_of c) xs → (v : State) → Fine c q.order None b (out Got.Missed v) → Fine c q.order None b (try_list c q w j xs v)
        list = list-ind c q w j (λ t. t < trees_of c) (Fine c q.order None b)
            (λ t v lt F. subst (λ (d : List ℕ). Fine c q.order None d (access c q w j t v)) F.1 (access-fine w j p t lt v F.0))
            (λ t v F. F)

  -- ---- stealing search
  pub search_and_steal-fine : (start : ℕ) (s : State) → Kept c s.trees s.locals s.bits → Fine c q.order None s.bits (search_and_steal c q start s)
  unfolding search_and_steal
  search_and_steal-fine start s K = search_best-fine Walk.Stealing 0 8 tt s.bits start 0 (trees_of c) s K refl

  -- ---- reserving search, for index x of the class
  module _ (x : ℕ) (lx : x < locals_of c.places q.class) where
    far-fine : (start : ℕ) (s : State) → Kept c s.trees s.locals s.bits → Fine c q.order None s.bits (search_far c q (slot c.places q.class x) start s)
    unfolding search_far
    far-fine start s K = search_best-fine Walk.Far (slot c.places q.class x) 8 (x, (lx, refl)) s.bits start 0 (trees_of c) s K refl

    pub search_and_reserve-fine : (start : ℕ) (s : State) → Kept c s.trees s.locals s.bits → Fine c q.order None s.bits (search_and_reserve c q (slot c.places q.class x) start s)
    unfolding search_and_reserve search_from
    search_and_reserve-fine start s K =
        ifte-ind (Fine c q.order None s.bits) (ltb q.order (huge_order c.tree_order)) _ _
        (λ _. else-fine c q.order None s.bits _ _
        (search_best-fine Walk.Near (slot c.places q.class x) 3 (x, (lx, refl)) s.bits (rounded_start (trees_of c) start) 1 (near (trees_of c)) s K refl)
        (λ v Kv. far-fine (rounded_start (trees_of c) start) v Kv))
        (λ _. far-fine (rounded_start (trees_of c) start) s K)
