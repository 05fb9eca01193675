-- Where the free frames are that a refused get of one frame did not reach. Assumes nothing.
use Rattle.std.proofs.Math.Path.{◌≡◌, refl, sym, ap₂}
use Rattle.std.proofs.Common.{ap, ◌∙◌, inl, inr, Option, None}
use Rattle.std.specs.Prelude.{Bool, not, List, ℕ, ◌+◌, ◌<◌}
use Rattle.std.proofs.Math.Bool.{true, false}
use Rattle.std.proofs.Math.Logic.{⊎_elim}
use native.Mathlib.Omega.{arith}
use Rattle.std.proofs.Math.Dec.{eqb}
use borrow.Author.Tests.{eqb-true, eqb-false, ne_eqb}
use Rattle.rules.specs.Base.{pick, both, either, sum}
use Rattle.rules.specs.Words.{Config, trees_of, locals_of, slot, local_count, entry_at, local_at}
use Rattle.rules.specs.Policy.{kind_at, Configured}
use Rattle.rules.specs.declared.Request.{Request}
use Rattle.rules_calls.specs.Standing.{standing}
use Rattle.rules_calls.specs.Calls.{refusal, get, drain}
use Rattle.rules_calls.specs.Statistics.{local_free, total_free}
use Rattle.law_rules.specs.Sum.{sum-zero, sum-ext}
use Rattle.law_rules.specs.Cases.{below_or}
use Rattle.law_rules.specs.Sizes.{Size}
use Rattle.law_rules.specs.All.{by, true-false}
use Rattle.thm_hand.specs.Hand.{Kept}
use Rattle.thm_keeps.specs.Calls.{drain-keeps}
use Rattle.thm_keeps.specs.Standing.{TreeWords, test-kept, kept_test}
use Rattle.thm_truth.specs.Sums.{sum-slots}
use Rattle.thm_truth.specs.Truth.{free_frames, own-free, total-free}
use Rattle.thm_reach.specs.Reach.{Lends, Unreachable}
use Rattle.thm_reach.proofs.Memory.{memory-exactly, kept-words, none-present, none-reserved}
use Rattle.thm_reach.specs.OutOfReach.{lends, out_of_reach}

-- a class that passes the test lends
lends_fact : (c : Config) (k e : ℕ) → lends c k e ≡ true → Lends c k e
unfolding lends
lends_fact c k e = go (eqb (kind_at c k e) 1) refl (eqb (kind_at c k e) 3) refl (eqb (kind_at c k e) 2) refl (eqb e k) refl
  where
    go : (w : Bool) → eqb (kind_at c k e) 1 ≡ w → (x : Bool) → eqb (kind_at c k e) 3 ≡ x → (y : Bool) → eqb (kind_at c k e) 2 ≡ y → (z : Bool) → eqb e k ≡ z
        → either w (either x (both y (not z))) ≡ true → Lends c k e
    go true a x b y d z f h = inl (eqb-true _ _ a)
    go false a true b y d z f h = inr (inl (eqb-true _ _ b))
    go false a false b true d false f h = inr (inr (eqb-true _ _ d, eqb-false _ _ f))
    go false a false b true d true f h = true-false h refl
    go false a false b false d z f h = true-false h refl

module _ (c : Config) (sz : Size c.tree_order) (ts ls bs : List ℕ) (w : TreeWords ts) (S : standing c ts ls bs ≡ true) where
  -- the words keep the rules
  K : Kept c ts ls bs
  K = test-kept c sz ts ls bs w S

  -- a local is empty if it is so where it is present
  empty-local : (j : ℕ) → ((local_at ls j).present ≡ true → (local_at ls j).free ≡ 0) → (local_at ls j).free ≡ 0
  empty-local j f = by (local_at ls j).present f (λ p. sym (own-free c sz ts ls bs w S j) ∙ ap (λ (b : Bool). pick b (local_at ls j).free 0) p)

  -- where nothing is reachable, every free frame is out of reach
  pub all-out-of-reach : (k : ℕ) (given : Option ℕ) → Unreachable c ts ls k given → free_frames bs c.frames ≡ out_of_reach c ts ls k
  unfolding out_of_reach total_free local_free local_count
  all-out-of-reach k given U =
      sym (total-free c sz ts ls bs w S)
      ∙ ap₂ (λ (x y : ℕ). x + y)
      (sum-ext _ _ 0 (trees_of c) (λ t a b. at t (omega arith) (entry_at ts t).reserved refl (eqb (kind_at c k (entry_at ts t).class) 0) refl))
      (sym (sum-slots c.places (λ j. (local_at ls j).free) 8) ∙ sum-ext _ _ 0 8 (λ e a b. class e (omega arith) (lends c k e) refl))
    where
      at : (t : ℕ) → t < trees_of c → (x : Bool) → (entry_at ts t).reserved ≡ x → (y : Bool) → eqb (kind_at c k (entry_at ts t).class) 0 ≡ y
          → (entry_at ts t).free ≡ pick x (entry_at ts t).free (pick y (entry_at ts t).free 0)
      at t lt true e y f = refl
      at t lt false e true f = refl
      at t lt false e false f = ⊎_elim (λ h. absurd (eqb-false _ _ f (U.entries t lt e h))) (λ h. (let z : (entry_at ts t).free ≡ 0 = omega arith in z)) (below_or 0 (entry_at ts t).free)

      class : (e : ℕ) → e < 8 → (x : Bool) → lends c k e ≡ x
          → sum (λ i. (local_at ls (slot c.places e i)).free) 0 (locals_of c.places e) ≡ pick x 0 (sum (λ i. (local_at ls (slot c.places e i)).free) 0 (locals_of c.places e))
      class e le true f =
          sum-zero (λ i. (local_at ls (slot c.places e i)).free) 0 (locals_of c.places e)
          (λ i a b. empty-local (slot c.places e i) (U.locals e i le (omega arith) (lends_fact c k e f)))
      class e le false f = refl

  -- with no reservation and no Invalid class nothing is out of reach
  pub none-out-of-reach : (k : ℕ) → ((t : ℕ) → t < trees_of c → (entry_at ts t).reserved ≡ false) → ((j : ℕ) → (local_at ls j).present ≡ false) → ((e : ℕ) → Configured c e → 0 < kind_at c k e) → out_of_reach c ts ls k ≡ 0
  unfolding out_of_reach local_free
  none-out-of-reach k u p v =
      ap₂ (λ (x y : ℕ). x + y)
      (sum-zero (λ t. pick (entry_at ts t).reserved (entry_at ts t).free (pick (eqb (kind_at c k (entry_at ts t).class) 0) (entry_at ts t).free 0)) 0 (trees_of c)
      (λ t a b.
      let lt : t < trees_of c = omega arith in
      rw (u t lt, ne_eqb (kind_at c k (entry_at ts t).class) 0 (λ z. omega (arith, z, v (entry_at ts t).class (K.class t lt))))))
      (sum-zero (λ e. pick (lends c k e) 0 (sum (λ i. (local_at ls (slot c.places e i)).free) 0 (locals_of c.places e))) 0 8 (λ e a b. class e (lends c k e)))
    where
      class : (e : ℕ) (x : Bool) → ◌≡◌ {A = ℕ} (pick x 0 (sum (λ i. (local_at ls (slot c.places e i)).free) 0 (locals_of c.places e))) 0
      class e true = refl
      class e false = sum-zero (λ i. (local_at ls (slot c.places e i)).free) 0 (locals_of c.places e) (λ i a b. empty-local (slot c.places e i) (λ a. true-false a (p (slot c.places e i))))

-- a get of one frame that is refused with Memory: every free frame below F is out of reach of its class
pub memory-out-of-reach : (c : Config) → Size c.tree_order → (t l b : List ℕ) → TreeWords t → standing c t l b ≡ true → (q : Request) → q.order ≡ 0 → refusal c q 0 ≡ 0
    → (get c q None t l b).number ≡ 7 → free_frames b c.frames ≡ out_of_reach c t l q.class
memory-out-of-reach c sz t l b w S q single fit n = all-out-of-reach c sz t l b w S q.class q.local ((memory-exactly c sz t l b w S q single fit).0 n)

-- directly after a drain, where no class is Invalid for the request's: it is refused with Memory only if no frame below F is free
pub drained-full : (c : Config) → Size c.tree_order → (t l b : List ℕ) → TreeWords t → standing c t l b ≡ true → (q : Request) → q.order ≡ 0 → refusal c q 0 ≡ 0
    → ((e : ℕ) → Configured c e → 0 < kind_at c q.class e)
    → (get c q None (drain c t l b).trees (drain c t l b).locals (drain c t l b).bits).number ≡ 7 → free_frames b c.frames ≡ 0
drained-full c sz t l b w S q single fit v n =
    let D = drain-keeps c t l b sz S (test-kept c sz t l b w S) in
    let w2 = kept-words c _ _ _ D.kept in
    let S2 = kept_test c sz _ _ _ D.kept in
    ap (λ (x : List ℕ). free_frames x c.frames) (sym D.bits)
    ∙ memory-out-of-reach c sz (drain c t l b).trees (drain c t l b).locals (drain c t l b).bits w2 S2 q single fit n
    ∙ none-out-of-reach c sz (drain c t l b).trees (drain c t l b).locals (drain c t l b).bits w2 S2 q.class
    (none-reserved c (drain c t l b).trees (drain c t l b).locals (drain c t l b).bits D.kept D.absent)
    (none-present c (drain c t l b).trees (drain c t l b).locals (drain c t l b).bits D.kept D.absent) v
