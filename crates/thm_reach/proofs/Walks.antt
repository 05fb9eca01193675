-- A search for one frame gives exactly if one of the trees that it visits may be taken of. Assumes nothing.
use Rattle.std.specs.Prelude.{◌≡◌, Bool, ◌≢◌, ℕ, zero, suc, ◌+◌, ◌-◌, ◌<◌, ◌≤◌, take, None}
use Rattle.std.proofs.Math.Path.{refl, subst}
use Rattle.std.proofs.Common.{sym, ◌∙◌, not-suc-le-zero, arith}
use Rattle.std.proofs.Math.Bool.{true, false}
use mathlib.Core.List.{List, [], ◌∷◌}
use Rattle.std.proofs.Math.Dec.{ltb}
use borrow.Author.Tests.{ltb-true, ltb-false}
use Rattle.rules.specs.Base.{pick, Out, out}
use Rattle.rules.specs.Words.{Config, huge_order, trees_of, entry_at}
use Rattle.rules.specs.Policy.{policy, kind_at}
use Rattle.rules.specs.declared.Tree.{Tree}
use Rattle.rules.specs.declared.Kind.{Kind}
use Rattle.rules.specs.declared.Kind.TheVariants.{Invalid, Steal, Demote, Match}
use Rattle.rules.specs.declared.Request.{Request}
use Rattle.rules_calls.specs.declared.Got.{Got}
use Rattle.rules_calls.specs.declared.Walk.{Walk}
use Rattle.rules_calls.specs.State.{State, st, size, missed, or_else, with_look}
use Rattle.rules_calls.specs.Walking.{walk_tree, at_once, rated_in, is_full, rate, Candidate, rated, insert, admit, access, Sight, sight, visit, walk, try_list, stopped, search_best}
use Rattle.rules_calls.specs.Search.{near, rounded_start, search_far, search_from, search_and_reserve, search_and_steal}
use Rattle.law_rules.specs.Cases.{by-eq}
use Rattle.law_rules.specs.Sizes.{Size}
use Rattle.law_rules.specs.All.{true-false}
use Rattle.law_rules.specs.Kinds.{invalid-kind, steal-kind, demote-kind, match-kind}
use Rattle.law_rules.specs.Accepted.{accepted-says, trees-some}
use Rattle.thm_hand.specs.Hand.{Kept}
use Rattle.law_calls.specs.Steps.{ifte-ind}
use Rattle.law_calls.specs.Walks.{walk_tree-lt, Every, every-admit, tried-ind, visit-ind, sight-ind, steps-ind}
use Rattle.thm_keeps.specs.Fine.{Asks}
use Rattle.thm_reach.specs.Reach.{Reachable, ReachedBy}
use Rattle.law_calls.specs.EveryTree.{every-tree}
use Rattle.thm_reach.specs.Ends.{Ends, ends-map, else-ends, Takes, one, access-gives}

-- a list has no tree
abbrev NoneListed : List Candidate → Type 0
NoneListed [] = Unit {0}
NoneListed (x ∷ xs) = ⊥

insert-some : (key t : ℕ) (xs : List Candidate) → NoneListed (insert key t xs) → ⊥
unfolding insert
insert-some key t [] = λ e. e
insert-some key t (rated k u ∷ xs) = ifte-ind (λ (l : List Candidate). NoneListed l → ⊥) (ltb k key) _ _ (λ _ e. e) (λ _ e. e)

take-some : (m : ℕ) (xs : List Candidate) → 0 < m → (NoneListed xs → ⊥) → NoneListed (take m xs) → ⊥
take-some zero xs h f e = not-suc-le-zero h
take-some (suc m) [] h f e = f tt
take-some (suc m) (x ∷ xs) h f e = e

-- a tree that is listed stays in the list, or a better one
admit-some : (m key t : ℕ) (xs : List Candidate) → 0 < m → NoneListed (admit m key t xs) → ⊥
unfolding admit
admit-some m key t xs h = take-some m (insert key t xs) h (insert-some key t xs)

-- ---- ratings
-- walks that rate every tree but an Invalid one
abbrev Rates : Walk → Type 0
Rates Walk.Near = ⊥
Rates Walk.Far = Unit {0}
Rates Walk.Stealing = Unit {0}

module _ (c : Config) (q : Request) (e : Tree) where
  -- a tree that is rated may be taken of
  pub rate-some : (w : Walk) → rate c q w e ≢ 0 → (e.reserved ≡ false) × ((size q ≤ e.free) × (0 < kind_at c q.class e.class))
  unfolding rate rated_in
  rate-some w = go e.reserved refl (ltb e.free (size q)) refl (policy c q.class e.class e.free) refl
    where
      go : (a : Bool) → e.reserved ≡ a → (b : Bool) → ltb e.free (size q) ≡ b → (d : Kind) → policy c q.class e.class e.free ≡ d
          → pick a 0 (pick b 0 (rated_in w (is_full c.tree_order e) d)) ≢ 0 → (e.reserved ≡ false) × ((size q ≤ e.free) × (0 < kind_at c q.class e.class))
      go true p b r d k n = absurd (n refl)
      go false p true r d k n = absurd (n refl)
      go false p false r Invalid k n = absurd (n refl)
      go false p false r Steal k n = (p, (ltb-false _ _ r, omega (arith, steal-kind c q.class e.class e.free k)))
      go false p false r Demote k n = (p, (ltb-false _ _ r, omega (arith, demote-kind c q.class e.class e.free k)))
      go false p false r (Match v) k n = (p, (ltb-false _ _ r, omega (arith, match-kind c q.class e.class e.free v k)))

  -- and the other way, but in the near walk
  pub rate-none : (w : Walk) → Rates w → rate c q w e ≡ 0 → e.reserved ≡ false → size q ≤ e.free → kind_at c q.class e.class ≡ 0
  unfolding rate rated_in
  rate-none w rw' = go w rw' e.reserved refl (ltb e.free (size q)) refl (policy c q.class e.class e.free) refl (is_full c.tree_order e)
    where
      go : (w : Walk) → Rates w → (a : Bool) → e.reserved ≡ a → (b : Bool) → ltb e.free (size q) ≡ b → (d : Kind) → policy c q.class e.class e.free ≡ d → (g : Bool)
          → pick a 0 (pick b 0 (rated_in w g d)) ≡ 0 → e.reserved ≡ false → size q ≤ e.free → kind_at c q.class e.class ≡ 0
      go w rs true p b r d k g z u le = true-false p u
      go w rs false p true r d k g z u le = absurd (let l : e.free < size q = ltb-true _ _ r in omega arith)
      go w rs false p false r Invalid k g z u le = invalid-kind c q.class e.class e.free k
      go Walk.Far rs false p false r Steal k g z u le = absurd (omega arith)
      go Walk.Far rs false p false r Demote k true z u le = absurd (omega arith)
      go Walk.Far rs false p false r Demote k false z u le = absurd (omega arith)
      go Walk.Far rs false p false r (Match v) k g z u le = absurd (omega arith)
      go Walk.Stealing rs false p false r Steal k g z u le = absurd (omega arith)
      go Walk.Stealing rs false p false r Demote k g z u le = absurd (omega arith)
      go Walk.Stealing rs false p false r (Match v) k g z u le = absurd (omega arith)
      go Walk.Near rs false p false r Steal k g z u le = absurd rs
      go Walk.Near rs false p false r Demote k g z u le = absurd rs
      go Walk.Near rs false p false r (Match v) k g z u le = absurd rs

-- no tree may be taken of
abbrev pub NoTree : Config → List ℕ → ℕ → Type 0
NoTree c ts k = (t : ℕ) → t < trees_of c → (entry_at ts t).reserved ≡ false → 0 < (entry_at ts t).free → kind_at c k (entry_at ts t).class ≡ 0

module _ (c : Config) (sz : Size c.tree_order) (q : Request) (A : Asks c q None) (single : q.order ≡ 0) (ts ls bs : List ℕ) (K : Kept c ts ls bs) where
  takes-reach : (t : ℕ) → Takes c ts q.class t → ReachedBy c ts ls q
  takes-reach t T = Reachable.entry t T.inside T.unreserved T.some T.allowed

  module _ (w : Walk) (j m start first : ℕ) (room : 0 < m) where
    -- the visited trees were all passed over
    abbrev Passed : ℕ → Type 0
    Passed i = (x : ℕ) → first ≤ x → x < i → rate c q w (entry_at ts (walk_tree (trees_of c) start x)) ≡ 0

    -- before step i: no word has changed; the listed trees may be taken of; with none listed all visited ones were passed over
    abbrev Before : ℕ → List Candidate → State → Type 0
    Before i xs s = (s ≡ st ts ls bs s.looks s.tries) × (Every (Takes c ts q.class) xs × (NoneListed xs → Passed i))

    -- after step i
    abbrev After : ℕ → Out Got Sight → Type 0
    After i (out (Got.Done f k) x) = ReachedBy c ts ls q
    After i (out Got.Missed x) = Before (i + 1) x.found x.state
    After i (out (Got.MissedAt t) x) = Before (i + 1) x.found x.state
    After i (out Got.Stuck x) = ReachedBy c ts ls q

    -- at the end
    abbrev Final : ℕ → Out Got Sight → Type 0
    Final last (out (Got.Done f k) x) = ReachedBy c ts ls q
    Final last (out Got.Missed x) = Before last x.found x.state
    Final last (out (Got.MissedAt t) x) = Before last x.found x.state
    Final last (out Got.Stuck x) = ReachedBy c ts ls q

    place-takes : (i : ℕ) → rate c q w (entry_at ts (walk_tree (trees_of c) start i)) ≢ 0 → Takes c ts q.class (walk_tree (trees_of c) start i)
    place-takes i n =
        let g = rate-some c q (entry_at ts (walk_tree (trees_of c) start i)) w n in
        record {
          inside = walk_tree-lt (trees_of c) start i (trees-some c (accepted-says c K.config));
          unreserved = g.0;
          some = omega (arith, g.1.0, one c sz q A single ts ls bs K);
          allowed = g.1.1;
        }

    next-passed : (i : ℕ) → Passed i → rate c q w (entry_at ts (walk_tree (trees_of c) start i)) ≡ 0 → Passed (i + 1)
    next-passed i P z x l h = by-eq x i (λ e. subst (λ (y : ℕ). rate c q w (entry_at ts (walk_tree (trees_of c) start y)) ≡ 0) (sym e) z) (λ n. P x l (omega arith))

    visit-after : (i : ℕ) (xs : List Candidate) (s : State) → Before i xs s → After i (visit c q w j m (walk_tree (trees_of c) start i) xs s)
    unfolding with_look
    visit-after i xs s B = subst (λ (v : State). After i (visit c q w j m (walk_tree (trees_of c) start i) xs v)) (sym B.0) (at s.looks s.tries)
      where
        gave : (g : Got) (v : State) → Ends (ReachedBy c ts ls q) ⊥ ts ls bs (out g v) → After i (out g (sight xs v))
        gave (Got.Done f x) v E = E
        gave Got.Missed v E = absurd E.0
        gave (Got.MissedAt t) v E = absurd E.0
        gave Got.Stuck v E = E

        at : (l k : ℕ) → After i (visit c q w j m (walk_tree (trees_of c) start i) xs (st ts ls bs l k))
        at l k =
            visit-ind (After i) c q w j m (walk_tree (trees_of c) start i) xs (st ts ls bs l k)
            (λ e.
            let T = place-takes i (λ z. (let y : ◌≡◌ {A = ℕ} at_once 0 = sym e ∙ z in omega arith)) in
            tried-ind (Ends (ReachedBy c ts ls q) ⊥ ts ls bs) (After i) xs (access c q w j (walk_tree (trees_of c) start i) (st ts ls bs (l + 1) k))
            (access-gives c sz q A single ts ls bs K (ReachedBy c ts ls q) ⊥ (takes-reach (walk_tree (trees_of c) start i) T) (walk_tree (trees_of c) start i) T w j (l + 1) k) gave)
            (λ z. (refl, (B.1.0, λ e. next-passed i (B.1.1 e) z)))
            (λ n. (refl, (every-admit (Takes c ts q.class) m _ (walk_tree (trees_of c) start i) (place-takes i n) xs B.1.0, λ e. absurd (admit-some m _ (walk_tree (trees_of c) start i) xs room e))))

    -- the list is tried: its first gives
    list-ends : (xs : List Candidate) (s : State) (last : ℕ) → Before last xs s → Ends (ReachedBy c ts ls q) (Passed last) ts ls bs (try_list c q w j xs s)
    unfolding try_list missed
    list-ends [] s last B = (B.1.1 tt, B.0)
    list-ends (rated key t ∷ xs) s last B =
        subst (λ (v : State). Ends (ReachedBy c ts ls q) (Passed last) ts ls bs (or_else (access c q w j t v) (try_list c q w j xs))) (sym B.0)
        (else-ends (ReachedBy c ts ls q) ts ls bs ⊥ (Passed last) (access c q w j t (st ts ls bs s.looks s.tries)) (try_list c q w j xs)
        (access-gives c sz q A single ts ls bs K (ReachedBy c ts ls q) ⊥ (takes-reach t B.1.0.0) t B.1.0.0 w j s.looks s.tries)
        (λ n i k. absurd n))

    pub search-ends : (last i k : ℕ) → Ends (ReachedBy c ts ls q) (Passed (first + (last - first))) ts ls bs (search_best c q w j m (trees_of c) start first last (st ts ls bs i k))
    unfolding search_best walk stopped
    search-ends last i k =
        sight-ind (Final (first + (last - first))) (Ends (ReachedBy c ts ls q) (Passed (first + (last - first))) ts ls bs) (walk c q w j m (trees_of c) start first last [] (st ts ls bs i k)) stopped (try_list c q w j)
        (steps-ind c q w j m (trees_of c) start Before After (Final (first + (last - first))) visit-after
        (λ i f k x a. a) (λ i x a. a) (λ i t x a. a) (λ i x a. a)
        (last - first) first (first + (last - first)) refl (λ xs s b. b) [] (st ts ls bs i k) (refl, (tt, λ e x l h. absurd (omega arith))))
        (λ f k x a. a)
        (λ x a. list-ends x.found x.state (first + (last - first)) a)
        (λ t x a. list-ends x.found x.state (first + (last - first)) a)
        (λ x a. a)

  -- ---- a walk 0 to n that rates every tree but an Invalid one comes to all trees
  all-passed : (w : Walk) → Rates w → (start : ℕ) → Passed w 0 8 start 0 (omega arith) (0 + (trees_of c - 0)) → NoTree c ts q.class
  all-passed w rs start P t lt u pos =
      let v = every-tree (trees_of c) start t lt in
      rate-none c q (entry_at ts t) w rs
      (subst (λ (x : ℕ). rate c q w (entry_at ts x) ≡ 0) v.1.1 (P v.0 (omega arith) (omega (arith, v.1.0))))
      u (omega (arith, one c sz q A single ts ls bs K))

  pub search_and_steal-ends : (start i k : ℕ) → Ends (ReachedBy c ts ls q) (NoTree c ts q.class) ts ls bs (search_and_steal c q start (st ts ls bs i k))
  unfolding search_and_steal
  search_and_steal-ends start i k =
      ends-map (ReachedBy c ts ls q) ts ls bs (Passed Walk.Stealing 0 8 start 0 (omega arith) (0 + (trees_of c - 0))) (NoTree c ts q.class) (search_best c q Walk.Stealing 0 8 (trees_of c) start 0 (trees_of c) (st ts ls bs i k)) (all-passed Walk.Stealing tt start)
      (search-ends Walk.Stealing 0 8 start 0 (omega arith) (trees_of c) i k)

  far-ends : (j start i k : ℕ) → Ends (ReachedBy c ts ls q) (NoTree c ts q.class) ts ls bs (search_far c q j start (st ts ls bs i k))
  unfolding search_far
  far-ends j start i k =
      ends-map (ReachedBy c ts ls q) ts ls bs (Passed Walk.Far j 8 start 0 (omega arith) (0 + (trees_of c - 0))) (NoTree c ts q.class) (search_best c q Walk.Far j 8 (trees_of c) start 0 (trees_of c) (st ts ls bs i k)) (all-passed Walk.Far tt start)
      (search-ends Walk.Far j 8 start 0 (omega arith) (trees_of c) i k)

  pub search_and_reserve-ends : (j start i k : ℕ) → Ends (ReachedBy c ts ls q) (NoTree c ts q.class) ts ls bs (search_and_reserve c q j start (st ts ls bs i k))
  unfolding search_and_reserve search_from
  search_and_reserve-ends j start i k =
      ifte-ind (Ends (ReachedBy c ts ls q) (NoTree c ts q.class) ts ls bs) (ltb q.order (huge_order c.tree_order)) _ _
      (λ _. else-ends (ReachedBy c ts ls q) ts ls bs (Passed Walk.Near j 3 (rounded_start (trees_of c) start) 1 (omega arith) (1 + (near (trees_of c) - 1))) (NoTree c ts q.class) (search_best c q Walk.Near j 3 (trees_of c) (rounded_start (trees_of c) start) 1 (near (trees_of c)) (st ts ls bs i k)) (search_far c q j (rounded_start (trees_of c) start))
      (search-ends Walk.Near j 3 (rounded_start (trees_of c) start) 1 (omega arith) (near (trees_of c)) i k)
      (λ _ l t. far-ends j (rounded_start (trees_of c) start) l t))
      (λ _. far-ends j (rounded_start (trees_of c) start) i k)
