-- How a route of one frame ends: it gives, by a frame that is reachable; or it misses, shows why, and changes no word. Assumes nothing.
use Rattle.std.specs.Prelude.{◌≡◌, refl, true, false, ℕ, ◌*◌, ◌/◌, ◌^◌, ◌<◌, ◌≤◌, None}
use Rattle.std.proofs.Common.{sym, ap}
use Rattle.std.proofs.Math.Path.{subst}
use mathlib.Core.List.{List}
use native.Mathlib.Omega.{arith}
use Rattle.rules.specs.Base.{out}
use Rattle.rules.specs.Words.{Config, tree_rows, trees_of, entry_at, local_at}
use Rattle.rules.specs.Policy.{kind_at}
use Rattle.rules.specs.Lower.{clear, lower_find}
use Rattle.rules.specs.declared.Request.{Request}
use Rattle.rules_calls.specs.declared.Got.{Got}
use Rattle.rules_calls.specs.declared.Walk.{Walk}
use Rattle.rules_calls.specs.State.{State, st, Way, size, done, stuck, or_else, with_trees, ask_lower}
use Rattle.rules_calls.specs.Standing.{tree_on}
use Rattle.rules_calls.specs.Walking.{steal_global, reserved_tree, reserve_or_steal, access}
use Rattle.law_rules.specs.Clear.{clear-held}
use Rattle.law_rules.specs.Search.{search-clear}
use Rattle.law_rules.specs.Sizes.{Size, first-row}
use Rattle.thm_hand.specs.Hand.{Kept}
use Rattle.law_calls.specs.Steps.{else-ind, ask_lower-ind, found-ind, steal-ind, reserve-ind, swap-ind, unreserve-ind, unreserve_local-ind}
use Rattle.thm_hand.specs.Here.{on-shares}
use Rattle.thm_keeps.specs.Fine.{Asks}
use Rattle.thm_keeps.specs.Asked.{has-trees}

-- a route from the words t, l, b: R is shown where it gives (or is stuck), N where it misses
abbrev pub Ends : Type 0 → Type 0 → List ℕ → List ℕ → List ℕ → Way → Type 0
Ends R N t l b (out (Got.Done f k) s) = R
Ends R N t l b (out Got.Missed s) = N × (s ≡ st t l b s.looks s.tries)
Ends R N t l b (out (Got.MissedAt x) s) = N × (s ≡ st t l b s.looks s.tries)
Ends R N t l b (out Got.Stuck s) = R

module _ (R : Type 0) (t l b : List ℕ) where
  -- a miss shows something else
  pub ends-map : (N M : Type 0) (w : Way) → (N → M) → Ends R N t l b w → Ends R M t l b w
  ends-map N M (out (Got.Done x k) s) f E = E
  ends-map N M (out Got.Missed s) f E = (f E.0, E.1)
  ends-map N M (out (Got.MissedAt x) s) f E = (f E.0, E.1)
  ends-map N M (out Got.Stuck s) f E = E

  -- the next route is asked where this one missed
  pub else-ends : (N M : Type 0) (w : Way) (next : State → Way) → Ends R N t l b w → (N → (i k : ℕ) → Ends R M t l b (next (st t l b i k))) → Ends R M t l b (or_else w next)
  else-ends N M w next E f =
      else-ind (Ends R N t l b) (Ends R M t l b) w E (λ x k s e. e) (λ s e. e) next
      (λ s e. subst (λ (v : State). Ends R M t l b (next v)) (sym e.1) (f e.0 s.looks s.tries))
      (λ x s e. subst (λ (v : State). Ends R M t l b (next v)) (sym e.1) (f e.0 s.looks s.tries))

-- a tree that class k may take a frame of
pub record Takes (c : Config) (ts : List ℕ) (k t : ℕ) : Type 0 where
  pub inside : t < trees_of c
  pub unreserved : (entry_at ts t).reserved ≡ false
  pub some : 0 < (entry_at ts t).free
  pub allowed : 0 < kind_at c k (entry_at ts t).class

module _ (c : Config) (sz : Size c.tree_order) (q : Request) (A : Asks c q None) (single : q.order ≡ 0) (ts ls bs : List ℕ) (K : Kept c ts ls bs) where
  pub one : size q ≡ 1
  one = ap (λ (o : ℕ). 2 ^ o) single

  -- what an entry has, and what a local has, is clear
  pub entry-clear : (t : ℕ) → t < trees_of c → (entry_at ts t).free ≤ clear c.tree_order bs t
  entry-clear t lt = omega (arith, K.sum t lt, clear-held c.tree_order bs t sz.least)

  pub local-clear : (j : ℕ) → (local_at ls j).present ≡ true → (local_at ls j).free ≤ clear c.tree_order bs (tree_on c.tree_order (local_at ls j))
  local-clear j p =
      omega (arith, K.sum (tree_on c.tree_order (local_at ls j)) (K.inside j p), clear-held c.tree_order bs (tree_on c.tree_order (local_at ls j)) sz.least, on-shares c.tree_order (tree_on c.tree_order (local_at ls j)) ls j p refl)

  -- the lower does not refuse one frame of a tree with a clear bit
  pub lower-gives : (row : ℕ) → row / tree_rows c.tree_order < trees_of c → 0 < clear c.tree_order bs (row / tree_rows c.tree_order) → lower_find c.tree_order bs row q.order None ≡ None → ⊥
  unfolding lower_find
  lower-gives row lt pos e =
      let d : lower_find c.tree_order bs row 0 None ≡ None = subst (λ (o : ℕ). lower_find c.tree_order bs row o None ≡ None) single e in
      let z : clear c.tree_order bs (row / tree_rows c.tree_order) ≡ 0 = search-clear c.tree_order bs (row / tree_rows c.tree_order) row sz.least (rw (has-trees c ts ls bs K (row / tree_rows c.tree_order) lt) at d) in
      omega arith

  module _ (R N : Type 0) (r : R) where
    pub ask_lower-gives : (t row k : ℕ) → row / tree_rows c.tree_order < trees_of c → 0 < clear c.tree_order bs (row / tree_rows c.tree_order) → (s : State) → s.bits ≡ bs → Ends R N ts ls bs (ask_lower c q None t row k s)
    ask_lower-gives t row k lt pos s e =
        ask_lower-ind (Ends R N ts ls bs) c q None t row k s sz.least sz.most A.order (λ j n. r)
        (λ f. absurd (lower-gives row lt pos (subst (λ (b : List ℕ). lower_find c.tree_order b row q.order None ≡ None) e f)))

    -- a tree that may be taken of gives
    module _ (t : ℕ) (T : Takes c ts q.class t) where
      first-clear : 0 < clear c.tree_order bs (t * tree_rows c.tree_order / tree_rows c.tree_order)
      first-clear = rw (first-row c.tree_order sz t) (omega (arith, entry-clear t T.inside, T.some))

      first-lt : t * tree_rows c.tree_order / tree_rows c.tree_order < trees_of c
      first-lt = rw (first-row c.tree_order sz t) T.inside

      steal_global-gives : (i k : ℕ) → Ends R N ts ls bs (steal_global c q None t (st ts ls bs i k))
      unfolding steal_global with_trees
      steal_global-gives i k =
          steal-ind (Ends R N ts ls bs) (st ts ls bs i k) c t q.class (size q) _ _
          (λ x u le _ or. ask_lower-gives t (t * tree_rows c.tree_order) x first-lt first-clear _ refl)
          (λ no'. absurd (no' T.unreserved (omega (arith, one, T.some)) T.allowed))

      reserved-gives : (j old : ℕ) (s : State) → s.bits ≡ bs → Ends R N ts ls bs (reserved_tree c q j t old s)
      unfolding reserved_tree done stuck
      reserved-gives j old s e =
          found-ind (Ends R N ts ls bs) s c.tree_order (t * tree_rows c.tree_order) q.order None _ _ sz.least sz.most A.order
          (λ b n. swap-ind (Ends R N ts ls bs) _ j _ _
          (unreserve_local-ind (Ends R N ts ls bs) _ c _ q.class _ _ (λ p. unreserve-ind (Ends R N ts ls bs) _ c _ q.class _ _ _ (λ x u v w. r) (λ no'. r)) (λ p. r)))
          (λ f. absurd (lower-gives (t * tree_rows c.tree_order) first-lt first-clear (subst (λ (b : List ℕ). lower_find c.tree_order b (t * tree_rows c.tree_order) q.order None ≡ None) e f)))

      reserve-gives : (j i k : ℕ) → Ends R N ts ls bs (reserve_or_steal c q j t (st ts ls bs i k))
      unfolding reserve_or_steal with_trees
      reserve-gives j i k =
          reserve-ind (Ends R N ts ls bs) (st ts ls bs i k) c t q.class (size q) _ _ _
          (λ u le _. ask_lower-gives t (t * tree_rows c.tree_order) _ first-lt first-clear _ refl)
          (λ u le _. reserved-gives j _ _ refl)
          (λ no'. absurd (no' T.unreserved (omega (arith, one, T.some)) T.allowed))

      pub access-gives : (w : Walk) (j i k : ℕ) → Ends R N ts ls bs (access c q w j t (st ts ls bs i k))
      unfolding access
      access-gives Walk.Near j i k = reserve-gives j i k
      access-gives Walk.Far j i k = reserve-gives j i k
      access-gives Walk.Stealing j i k = steal_global-gives i k
