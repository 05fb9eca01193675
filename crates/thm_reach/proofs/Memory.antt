-- A get of one frame with no name is refused with Memory exactly if no free frame is reachable. Assumes nothing.
use Rattle.std.specs.Prelude.{◌≡◌, true, false, ◌≢◌, ◌⊎◌, List, ltb, length, get_or, Option, Some, None}
use Rattle.std.proofs.Math.Path.{refl}
use Rattle.std.proofs.Common.{sym, ap, ◌∙◌, subst, inl, inr, arith}
use Rattle.std.proofs.Math.Logic.{⊎_elim}
use Prim.Native.Nat.{ℕ, ◌^◌, ◌<◌, ◌≤◌}
use Rattle.std.proofs.Math.Decide.{dec_lt}
use Rattle.std.proofs.Math.ListN.{get_or-eq_default}
use borrow.Author.Tests.{ltb-true, ltb-false}
use Rattle.rules.specs.Base.{out}
use Rattle.rules.specs.Words.{Config, trees_of, locals_of, slot, tree_of, local_of, entry_at, local_at}
use Rattle.rules.specs.declared.Request.{Request}
use Rattle.rules_calls.specs.declared.Got.{Got}
use Rattle.rules_calls.specs.State.{State, st, Way}
use Rattle.rules_calls.specs.Standing.{standing}
use Rattle.rules_calls.specs.FromLocals.{get_local, steal_local, demote_local}
use Rattle.rules_calls.specs.Search.{search_and_reserve, search_and_steal}
use Rattle.rules_calls.specs.Get.{last_routes, start_tree, get_reserving, search_trees, get_any, routes}
use Rattle.rules_calls.specs.Calls.{Told, fresh, refusal, close, frame_of, get, drain}
use Rattle.law_rules.specs.Sum.{sum-zero}
use Rattle.law_rules.specs.Sizes.{Size}
use Rattle.law_rules.specs.RoundTrips.{absent-word, bit-false}
use Rattle.law_rules.specs.All.{true-false}
use Rattle.thm_hand.specs.Hand.{holds, holders, Kept}
use Rattle.law_calls.specs.Steps.{ifte-ind, from-ind}
use Rattle.law_calls.specs.Answers.{unless-ind, standing-ind}
use Rattle.law_calls.specs.Checked.{refusal-checked}
use Rattle.thm_hand.specs.Here.{holds-none}
use Rattle.thm_keeps.specs.Fine.{Asks}
use Rattle.thm_keeps.specs.Asked.{asks}
use Rattle.thm_keeps.specs.Calls.{get_keeps, drain-keeps}
use Rattle.thm_keeps.specs.Standing.{TreeWords, test-kept, kept_test}
use Rattle.thm_reach.specs.OutOfReach.{FreeTreesInvalid}
use Rattle.thm_reach.specs.Reach.{Lends, OwnAsked, Reachable, ReachedBy, Unreachable}
use Rattle.thm_reach.specs.Ends.{Ends, ends-map, else-ends}
use Rattle.thm_reach.proofs.Walks.{NoTree, search_and_steal-ends, search_and_reserve-ends}
use Rattle.thm_reach.specs.Own.{Spent, own-ends}
use Rattle.thm_reach.proofs.Lenders.{EmptyClass, NoneSteals, NoneMoves, steal_local-ends, demote_local-ends}

-- what is unreachable is not reachable
pub not-both : (c : Config) (ts ls : List ℕ) (k : ℕ) (given : Option ℕ) → Unreachable c ts ls k given → Reachable c ts ls k given → ⊥
not-both c ts ls k given U (Reachable.entry t lt u pos al) = omega (arith, al, U.entries t lt u pos)
not-both c ts ls k given U (Reachable.local e i le li L p pos) = omega (arith, pos, U.locals e i le li L p)
not-both c ts ls k given U (Reachable.own i a p pos) = omega (arith, pos, (U.own i a p).0)
not-both c ts ls k given U (Reachable.top_up i a p pos) = omega (arith, pos, (U.own i a p).1)

module _ (c : Config) (sz : Size c.tree_order) (q : Request) (A : Asks c q None) (single : q.order ≡ 0) (ts ls bs : List ℕ) (K : Kept c ts ls bs) where
  -- the own local, where it is asked for, cannot pay
  abbrev OwnSpent : Type 0
  OwnSpent = (i : ℕ) → OwnAsked c q.class q.local i → Spent c ts ls (slot c.places q.class i)

  -- own local and searches
  trees-ends : (g : Option ℕ) → q.local ≡ g → (i k : ℕ) → Ends (ReachedBy c ts ls q) (NoTree c ts q.class × OwnSpent) ts ls bs (search_trees c q g (st ts ls bs i k))
  unfolding search_trees get_reserving
  trees-ends (Some x) e i k =
      ifte-ind (Ends (ReachedBy c ts ls q) (NoTree c ts q.class × OwnSpent) ts ls bs) (ltb (locals_of c.places q.class) (trees_of c)) _ _
      (λ t.
      let lt : locals_of c.places q.class < trees_of c = ltb-true _ _ t in
      from-ind (Ends (ReachedBy c ts ls q) (Spent c ts ls j) ts ls bs) (Ends (ReachedBy c ts ls q) (NoTree c ts q.class × OwnSpent) ts ls bs) (get_local 1 c q None j (st ts ls bs i k))
      (own-ends c sz q A single ts ls bs K (ReachedBy c ts ls q) (Spent c ts ls j) j (λ p pos. Reachable.own x (e, lt) p pos) (λ p more. Reachable.top_up x (e, lt) p more) (λ s. s) i k)
      (λ f y s r. r) (λ s r. r) _ _
      (λ s E. next (start_tree c q (Some x)) s E.0 E.1)
      (λ y s E. next y s E.0 E.1))
      (λ f. ends-map (ReachedBy c ts ls q) ts ls bs (NoTree c ts q.class) (NoTree c ts q.class × OwnSpent) (search_and_steal c q (start_tree c q (Some x)) (st ts ls bs i k))
      (λ n. (n, λ y a. absurd (let h : trees_of c ≤ locals_of c.places q.class = ltb-false _ _ f in omega (arith, h, a.1))))
      (search_and_steal-ends c sz q A single ts ls bs K (start_tree c q (Some x)) i k))
    where
      j : ℕ
      j = slot c.places q.class x

      same : (y : ℕ) → q.local ≡ Some y → x ≡ y
      same y h = (let d : Some x ≡ Some y = sym e ∙ h in cc)

      next : (start : ℕ) (s : State) → Spent c ts ls j → s ≡ st ts ls bs s.looks s.tries → Ends (ReachedBy c ts ls q) (NoTree c ts q.class × OwnSpent) ts ls bs (search_and_reserve c q j start s)
      next start s sp h =
          subst (λ (v : State). Ends (ReachedBy c ts ls q) (NoTree c ts q.class × OwnSpent) ts ls bs (search_and_reserve c q j start v)) (sym h)
          (ends-map (ReachedBy c ts ls q) ts ls bs (NoTree c ts q.class) (NoTree c ts q.class × OwnSpent) (search_and_reserve c q j start (st ts ls bs s.looks s.tries))
          (λ n. (n, λ y a. subst (λ (v : ℕ). Spent c ts ls (slot c.places q.class v)) (same y a.0) sp))
          (search_and_reserve-ends c sz q A single ts ls bs K j start s.looks s.tries))
  trees-ends None e i k =
      ends-map (ReachedBy c ts ls q) ts ls bs (NoTree c ts q.class) (NoTree c ts q.class × OwnSpent) (search_and_steal c q (start_tree c q None) (st ts ls bs i k))
      (λ n. (n, λ y a. absurd (let d : None ≡ Some y = sym e ∙ a.0 in let z : ◌≡◌ {A = ℕ} 0 1 = cc in omega arith)))
      (search_and_steal-ends c sz q A single ts ls bs K (start_tree c q None) i k)

  -- all routes
  pub routes-ends : (i k : ℕ) → Ends (ReachedBy c ts ls q) (Unreachable c ts ls q.class q.local) ts ls bs (routes c q None (st ts ls bs i k))
  unfolding routes get_any last_routes
  routes-ends i k =
      else-ends (ReachedBy c ts ls q) ts ls bs (NoTree c ts q.class × OwnSpent) (Unreachable c ts ls q.class q.local) (search_trees c q q.local (st ts ls bs i k)) (last_routes c q None)
      (trees-ends q.local refl i k) (λ T l t.
      else-ends (ReachedBy c ts ls q) ts ls bs (NoneSteals c sz q A single ts ls bs K) (Unreachable c ts ls q.class q.local) (steal_local c q None (st ts ls bs l t)) (demote_local c q None)
      (steal_local-ends c sz q A single ts ls bs K l t) (λ S u v.
      ends-map (ReachedBy c ts ls q) ts ls bs (NoneMoves c sz q A single ts ls bs K) (Unreachable c ts ls q.class q.local) (demote_local c q None (st ts ls bs u v))
      (λ M. record { entries = T.0; locals = λ e x le lx L p. empty S M e le L x lx p; own = T.1 })
      (demote_local-ends c sz q A single ts ls bs K u v)))
    where
      empty : NoneSteals c sz q A single ts ls bs K → NoneMoves c sz q A single ts ls bs K → (e : ℕ) → e < 8 → Lends c q.class e → EmptyClass c sz q A single ts ls bs K e
      empty S M e le (inl h) = S e le (inl h)
      empty S M e le (inr (inl h)) = S e le (inr h)
      empty S M e le (inr (inr h)) = M e le h.0 h.1

-- ---- the call

-- Memory, nothing is reachable, and no word has changed; or another answer, and something is
abbrev Decided : Config → ℕ → Option ℕ → List ℕ → List ℕ → List ℕ → Told → Type 0
Decided c k given t l b r =
    ((r.number ≡ 7) × (Unreachable c t l k given × ((r.trees ≡ t) × ((r.locals ≡ l) × (r.bits ≡ b))))) ⊎ ((r.number ≢ 7) × Reachable c t l k given)

close-decided : (c : Config) (k : ℕ) (given : Option ℕ) (t l b : List ℕ) (w : Way) → Ends (Reachable c t l k given) (Unreachable c t l k given) t l b w → Decided c k given t l b (close w)
unfolding close
close-decided c k given t l b (out (Got.Done f x) s) E = inr (λ n. omega (arith, n), E)
close-decided c k given t l b (out Got.Missed s) E = inl (refl, (E.0, (ap (λ (v : State). v.trees) E.1, (ap (λ (v : State). v.locals) E.1, ap (λ (v : State). v.bits) E.1))))
close-decided c k given t l b (out (Got.MissedAt x) s) E = inl (refl, (E.0, (ap (λ (v : State). v.trees) E.1, (ap (λ (v : State). v.locals) E.1, ap (λ (v : State). v.bits) E.1))))
close-decided c k given t l b (out Got.Stuck s) E = inr (λ n. omega (arith, n), E)

-- on words that pass the state test, tree words being words of 32 bits
module _ (c : Config) (sz : Size c.tree_order) (t l b : List ℕ) (w : TreeWords t) (S : standing c t l b ≡ true) (q : Request) (single : q.order ≡ 0) (fit : refusal c q 0 ≡ 0) where
  -- they keep the rules
  K : Kept c t l b
  K = test-kept c sz t l b w S

  decided : Decided c q.class q.local t l b (get c q None t l b)
  unfolding get frame_of
  decided =
      standing-ind (Decided c q.class q.local t l b) c (fresh t l b) _
      (λ _. unless-ind (Decided c q.class q.local t l b) (refusal c q 0) (fresh t l b) _
      (λ n e. absurd (omega (arith, e, fit)))
      (λ _. close-decided c q.class q.local t l b (routes c q None (fresh t l b)) (routes-ends c sz q (asks c q None (refusal-checked c q 0 fit)) single t l b K 0 0)))
      (λ f. true-false S f)

  -- refused with Memory exactly if nothing reachable has a free frame
  pub memory-exactly : ((get c q None t l b).number ≡ 7 → Unreachable c t l q.class q.local) × (Unreachable c t l q.class q.local → (get c q None t l b).number ≡ 7)
  memory-exactly = ((λ n. ⊎_elim (λ x. x.1.0) (λ x. absurd (x.0 n)) decided), (λ U. ⊎_elim (λ x. x.0) (λ x. absurd (not-both c t l q.class q.local U x.1)) decided))

  -- Done exactly if something reachable has one
  pub done-exactly : ((get c q None t l b).number ≡ 0 → Reachable c t l q.class q.local) × (Reachable c t l q.class q.local → (get c q None t l b).number ≡ 0)
  unfolding frame_of
  done-exactly = (
    (λ n. ⊎_elim (λ x. absurd (omega (arith, n, x.0))) (λ x. x.1) decided),
    (λ R. ⊎_elim (λ n. n) (λ n. absurd (not-both c t l q.class q.local (memory-exactly.0 n) R)) (get_keeps c t l b sz S K q None fit).number),
  )

  -- a get of one frame that is refused with Memory changes no word
  pub memory-unchanged : (get c q None t l b).number ≡ 7 → ((get c q None t l b).trees ≡ t) × (((get c q None t l b).locals ≡ l) × ((get c q None t l b).bits ≡ b))
  memory-unchanged n = ⊎_elim (λ x. x.1.1) (λ x. absurd (x.0 n)) decided

-- ---- directly after a drain

-- the tree words of a state that keeps the rules have 32 bits
pub kept-words : (c : Config) (ts ls bs : List ℕ) → Kept c ts ls bs → TreeWords ts
unfolding tree_of
kept-words c ts ls bs K t = go (dec_lt t (trees_of c))
  where
    go : Dec (t < trees_of c) → get_or ts t 0 < 2 ^ 32
    go (yes l) = omega (arith, (K.class t l).0)
    go (no l) = (let e : get_or ts t 0 ≡ 0 = get_or-eq_default ts 0 (omega (arith, K.tree_words)) in omega (arith, e))

module _ (c : Config) (ts ls bs : List ℕ) (K : Kept c ts ls bs) (absent : (j : ℕ) → get_or ls j 0 ≡ 0) where
  -- no local is present, no entry reserved
  pub none-present : (j : ℕ) → (local_at ls j).present ≡ false
  none-present j = ap (λ (w : ℕ). (local_of w).present) (absent j) ∙ absent-word

  pub none-reserved : (t : ℕ) → t < trees_of c → (entry_at ts t).reserved ≡ false
  unfolding holders
  none-reserved t lt = bit-false (entry_at ts t).reserved
      (omega (arith, K.one t lt, sum-zero (λ j. holds c.tree_order (local_at ls j) t) 0 (length ls) (λ j a d. holds-none c.tree_order (local_at ls j) t (none-present j))))

  -- with no local present only entries are reachable
  pub only-entries : (k : ℕ) (given : Option ℕ) → (Unreachable c ts ls k given → FreeTreesInvalid c ts k) × (FreeTreesInvalid c ts k → Unreachable c ts ls k given)
  only-entries k given = (
    (λ U t lt pos. U.entries t lt (none-reserved t lt) pos),
    (λ F. record { entries = λ t lt u pos. F t lt pos; locals = λ e i le li L p. true-false p (none-present (slot c.places e i)); own = λ i a p. true-false p (none-present (slot c.places k i)) }),
  )

-- directly after a drain an otherwise valid get of one frame with no name is refused with Memory exactly if every tree whose entry has a free frame is Invalid for its class
pub after-drain : (c : Config) → Size c.tree_order → (t l b : List ℕ) → TreeWords t → standing c t l b ≡ true → (q : Request) → q.order ≡ 0 → refusal c q 0 ≡ 0
    → ((get c q None (drain c t l b).trees (drain c t l b).locals (drain c t l b).bits).number ≡ 7 → FreeTreesInvalid c (drain c t l b).trees q.class)
    × (FreeTreesInvalid c (drain c t l b).trees q.class → (get c q None (drain c t l b).trees (drain c t l b).locals (drain c t l b).bits).number ≡ 7)
after-drain c sz t l b w S q single fit =
    let D = drain-keeps c t l b sz S (test-kept c sz t l b w S) in
    let M = memory-exactly c sz (drain c t l b).trees (drain c t l b).locals (drain c t l b).bits (kept-words c _ _ _ D.kept) (kept_test c sz _ _ _ D.kept) q single fit in
    let O = only-entries c (drain c t l b).trees (drain c t l b).locals (drain c t l b).bits D.kept D.absent q.class q.local in
    ((λ n. O.0 (M.0 n)), (λ F. M.1 (O.1 F)))
