-- The own local gives one frame exactly if it has one, or its tree's entry has more than one. Assumes nothing.
use Rattle.std.specs.Prelude.{◌≡◌, ◌⊎◌, ltb, get_or, None}
use Rattle.std.proofs.Math.Path.{refl}
use Rattle.std.proofs.Common.{ap, subst, inl, inr, ⊎_elim, arith}
use Rattle.std.proofs.Math.Bool.{true}
use mathlib.Core.List.{List}
use Prim.Native.Nat.{ℕ, ◌+◌, ◌-◌, ◌/◌, ◌<◌, ◌≤◌}
use Rattle.std.proofs.Math.ListN.{set}
use borrow.Author.Tests.{ltb-true}
use Rattle.rules.specs.Words.{Config, tree_rows, trees_of, tree_word, local_word, entry, entry_at, local_at}
use Rattle.rules.specs.Locals.{reservation, in_tree}
use Rattle.rules.specs.Lower.{clear, lower_find}
use Rattle.rules.specs.declared.Local.{Local}
use Rattle.rules.specs.declared.Request.{Request}
use Rattle.rules_calls.specs.State.{State, st, Way, size, done, missed, missed_at, with_trees, with_locals}
use Rattle.rules_calls.specs.Standing.{tree_on}
use Rattle.rules_calls.specs.FromLocals.{take_by, top_by, top_up, get_local}
use Rattle.law_rules.specs.Cases.{below_or}
use Rattle.law_rules.specs.Sizes.{Size, frames-le}
use Rattle.law_rules.specs.RoundTrips.{row_lt, present-lt, bit-true, bit_of-le}
use Rattle.law_rules.specs.All.{true-false}
use Rattle.thm_hand.specs.Hand.{Kept}
use Rattle.law_calls.specs.Steps.{ifte-ind, held-ind, found-ind, sync-ind, put-ind}
use Rattle.thm_hand.specs.Here.{on-holds}
use Rattle.thm_hand.specs.Locals.{load_same}
use Rattle.thm_keeps.specs.Fine.{Asks}
use Rattle.thm_reach.specs.Ends.{Ends, one, entry-clear, local-clear, lower-gives}

-- a present local in slot j is empty, and its tree's entry has at most one frame
abbrev pub Spent : Config → List ℕ → List ℕ → ℕ → Type 0
Spent c ts ls j = (local_at ls j).present ≡ true → ((local_at ls j).free ≡ 0) × ((entry_at ts (tree_on c.tree_order (local_at ls j))).free ≤ 1)

module _ (c : Config) (sz : Size c.tree_order) (q : Request) (A : Asks c q None) (single : q.order ≡ 0) (ts ls bs : List ℕ) (K : Kept c ts ls bs)
    (R N : Type 0) (j : ℕ) (here : (local_at ls j).present ≡ true → 0 < (local_at ls j).free → R)
    (there : (local_at ls j).present ≡ true → 1 < (entry_at ts (tree_on c.tree_order (local_at ls j))).free → R) where
  -- a local with a frame, on a tree with a clear bit, gives
  take_gives : R → (up : ℕ → ℕ → State → Way) (s : State) → s.bits ≡ bs → (local_at s.locals j).present ≡ true → 0 < (local_at s.locals j).free
      → tree_on c.tree_order (local_at s.locals j) < trees_of c → 0 < clear c.tree_order bs (tree_on c.tree_order (local_at s.locals j)) → Ends R N ts ls bs (take_by up c q None j s)
  unfolding take_by done in_tree with_locals
  take_gives r up s e p pos lt some =
      held-ind (Ends R N ts ls bs) s c.tree_order j None (size q) _ up _
      (λ _ _ _. found-ind (Ends R N ts ls bs) _ c.tree_order (local_at s.locals j).row q.order None _ _ sz.least sz.most A.order
      (λ b n. r)
      (λ f. absurd (lower-gives c sz q A single ts ls bs K (local_at s.locals j).row lt some (subst (λ (b : List ℕ). lower_find c.tree_order b (local_at s.locals j).row q.order None ≡ None) e f))))
      (λ _ no'. absurd (no' refl (omega (arith, one c sz q A single ts ls bs K))))
      (λ n. true-false p n)

  -- the entry of a present local's tree is reserved
  on-reserved : (local_at ls j).present ≡ true → (entry_at ts (tree_on c.tree_order (local_at ls j))).reserved ≡ true
  on-reserved p =
      bit-true (entry_at ts (tree_on c.tree_order (local_at ls j))).reserved
      (omega (arith, K.one (tree_on c.tree_order (local_at ls j)) (K.inside j p), on-holds c.tree_order (tree_on c.tree_order (local_at ls j)) ls j p refl, bit_of-le (entry_at ts (tree_on c.tree_order (local_at ls j))).reserved))

  -- an empty one is topped up
  top-ends : (local_at ls j).present ≡ true → (local_at ls j).free ≡ 0 → (Spent c ts ls j → N) → (i k : ℕ)
      → Ends R N ts ls bs (top_up 1 c q None j (local_at ls j).row (local_at ls j).free (st ts ls bs i k))
  unfolding top_up top_by missed_at with_trees with_locals
  top-ends p z none i k =
      let t : ℕ = (local_at ls j).row / tree_rows c.tree_order in
      let lt : (local_at ls j).row / tree_rows c.tree_order < trees_of c = K.inside j p in
      ifte-ind (Ends R N ts ls bs) (ltb (size q) (local_at ls j).free) _ _
      (λ e. absurd (let h : size q < (local_at ls j).free = ltb-true _ _ e in omega arith)) (λ _.
      sync-ind (Ends R N ts ls bs) (st ts ls bs i k) t (size q - (local_at ls j).free) _ _
      (λ r more.
      let x : ℕ = (entry_at ts t).free in
      let l2 : List ℕ = set ls j (local_word (reservation (local_at ls j).row ((local_at ls j).free + x))) in
      let many : 1 < (entry_at ts ((local_at ls j).row / tree_rows c.tree_order)).free = omega (arith, more, z, one c sz q A single ts ls bs K) in
      put-ind (Ends R N ts ls bs) (st (set ts t (tree_word (entry 0 true (entry_at ts t).class))) ls bs i k) c.tree_order j t x _ _
      (λ _ _.
      let is : local_at l2 j ≡ reservation (local_at ls j).row ((local_at ls j).free + x) =
      load_same ls j (local_at ls j).row ((local_at ls j).free + x) (present-lt ls j p) (row_lt (get_or ls j 0)) (omega (arith, z, K.free t lt, frames-le c.tree_order sz)) in
      take_gives (there p many) _ (st (set ts t (tree_word (entry 0 true (entry_at ts t).class))) l2 bs i k) refl
      (ap (λ (v : Local). v.present) is)
      (rw is (omega (arith, many)))
      (rw is lt)
      (rw is (omega (arith, many, entry-clear c sz q A single ts ls bs K t lt))))
      (λ no'. absurd (no' p refl)))
      (λ no'. (none (λ _. (z, few (below_or 1 (entry_at ts t).free) (λ h. no' (on-reserved p) (omega (arith, h, z, one c sz q A single ts ls bs K))))), refl)))
    where
      few : {x : ℕ} → (1 < x) ⊎ (x ≤ 1) → (1 < x → ⊥) → x ≤ 1
      few (inl h) f = absurd (f h)
      few (inr h) f = h

  pub own-ends : (Spent c ts ls j → N) → (i k : ℕ) → Ends R N ts ls bs (get_local 1 c q None j (st ts ls bs i k))
  unfolding get_local take_by missed done with_locals in_tree
  own-ends none i k =
      held-ind (Ends R N ts ls bs) (st ts ls bs i k) c.tree_order j None (size q) _ _ _
      (λ p _ le.
      let pos : 0 < (local_at ls j).free = omega (arith, le, one c sz q A single ts ls bs K) in
      found-ind (Ends R N ts ls bs) _ c.tree_order (local_at ls j).row q.order None _ _ sz.least sz.most A.order
      (λ b n. here p pos)
      (λ f. absurd (lower-gives c sz q A single ts ls bs K (local_at ls j).row (K.inside j p) (omega (arith, pos, local-clear c sz q A single ts ls bs K j p)) f)))
      (λ p no'. top-ends p (⊎_elim (λ h. (let z : (local_at ls j).free ≡ 0 = omega (arith, h, one c sz q A single ts ls bs K) in z)) (λ h. absurd (no' refl h)) (below_or (local_at ls j).free (size q))) none i k)
      (λ a. (none (λ p. true-false p a), refl))
