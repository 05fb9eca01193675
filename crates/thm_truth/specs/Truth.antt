-- Statistics tell the truth: total free, the rows and the frames in use are what the bitmap says. Assumes nothing.
use Rattle.std.specs.Prelude.{◌≡◌, Bool, true, false, List, ℕ, zero, suc, ◌+◌, ◌-◌, ◌*◌, ◌<◌, ◌≤◌, length}
use Rattle.std.proofs.Math.Path.{refl, sym, ap}
use Rattle.std.proofs.Common.{◌∙◌, zero-add, suc-mul}
use native.Mathlib.Omega.{arith}
use Rattle.std.proofs.Math.Dec.{eqb}
use Rattle.std.proofs.Math.ListN.{get_or}
use Rattle.rules.specs.Base.{pick, sum}
use Rattle.rules.specs.Words.{Config, tree_frames, trees_of, locals_of, slot, local_count, local_of, entry_at, local_at}
use Rattle.rules.specs.Lower.{bit, held, clear}
use Rattle.rules_calls.specs.Standing.{tree_on, standing}
use Rattle.rules_calls.specs.Statistics.{over_class, entry_free, local_free, reserved_free, in_use, tally, total_free}
use Rattle.law_rules.specs.Sum.{sum-ext}
use Rattle.law_rules.specs.Held.{bit_le, held-add}
use Rattle.law_rules.specs.Run.{run_none}
use Rattle.law_rules.specs.Clear.{clear-held}
use Rattle.law_rules.specs.Sizes.{Size, count-frames, count_bits}
use Rattle.law_rules.specs.SumTerms.{sum-plus, sum-swap}
use Rattle.thm_hand.specs.Hand.{share, shares, Kept}
use Rattle.thm_keeps.specs.Standing.{TreeWords, test-kept}
use Rattle.thm_truth.specs.Sums.{sum-slots, sum-share, pick-sum, over-plus, over-ext, over-times, over-all}

-- how many of the first n frames are free: their bit is 0
unfoldable pub free_frames : List ℕ → ℕ → ℕ
free_frames bs n = sum (λ f. 1 - bit bs f) 0 n

-- a frame is free or held
free-held : (bs : List ℕ) (n : ℕ) → free_frames bs n + held bs 0 n ≡ n
unfolding free_frames held sum
free-held bs zero = refl
free-held bs (suc n) = omega (arith, free-held bs n, bit_le bs (0 + n))

-- the clear bits of the first n trees
clear-trees : (z : ℕ) → 6 ≤ z → (bs : List ℕ) (n : ℕ) → sum (clear z bs) 0 n + held bs 0 (n * tree_frames z) ≡ n * tree_frames z
unfolding sum
clear-trees z h bs zero = let e : zero * tree_frames z ≡ 0 = omega arith in omega (arith, ap (held bs 0) e, run_none bs 0)
clear-trees z h bs (suc n) =
    let e : suc n * tree_frames z ≡ n * tree_frames z + tree_frames z = suc-mul n (tree_frames z) in
    let a : held bs 0 (suc n * tree_frames z) ≡ held bs 0 (n * tree_frames z) + held bs (0 + n * tree_frames z) (tree_frames z) = ap (held bs 0) e ∙ held-add bs 0 (n * tree_frames z) (tree_frames z) in
    let b : held bs (0 + n * tree_frames z) (tree_frames z) ≡ held bs (n * tree_frames z) (tree_frames z) = ap (λ (x : ℕ). held bs x (tree_frames z)) (zero-add (n * tree_frames z)) in
    let d : clear z bs (0 + n) ≡ clear z bs n = ap (clear z bs) (zero-add n) in
    omega (arith, clear-trees z h bs n, clear-held z bs n h)

-- n times the same
sum-const : (m n : ℕ) → sum (λ t. m) 0 n ≡ n * m
unfolding sum
sum-const m zero = omega arith
sum-const m (suc n) = omega (arith, sum-const m n, suc-mul n m)

-- of words that pass the state test, tree words being words of 32 bits
module _ (c : Config) (sz : Size c.tree_order) (ts ls bs : List ℕ) (w : TreeWords ts) (S : standing c ts ls bs ≡ true) where
  -- they keep the rules
  K : Kept c ts ls bs
  K = test-kept c sz ts ls bs w S

  -- the clear bits of a tree are in its entry or in locals
  tree_free : (t : ℕ) → t < trees_of c → (entry_at ts t).free + shares c.tree_order t ls ≡ clear c.tree_order bs t
  tree_free t lt = omega (arith, K.sum t lt, clear-held c.tree_order bs t sz.least)

  -- an absent local has no frames
  pub own-free : (j : ℕ) → pick (local_at ls j).present (local_at ls j).free 0 ≡ (local_at ls j).free
  unfolding local_of
  own-free j = go (local_at ls j).present refl
    where
      zeros : get_or ls j 0 ≡ 0 → (local_at ls j).free ≡ 0
      zeros e = ap (λ (w : ℕ). (local_of w).free) e

      go : (b : Bool) → (local_at ls j).present ≡ b → pick b (local_at ls j).free 0 ≡ (local_at ls j).free
      go true e = refl
      go false e = sym (zeros (K.absent j e))

  -- the shares of some of the trees are the free of the locals on them
  locals-over : (p : ℕ → Bool) → sum (λ t. pick (p t) (shares c.tree_order t ls) 0) 0 (trees_of c)
      ≡ sum (λ j. pick (local_at ls j).present (pick (p (tree_on c.tree_order (local_at ls j))) (local_at ls j).free 0) 0) 0 (local_count c.places)
  unfolding shares
  locals-over p =
      sum-ext _ _ 0 (trees_of c) (λ t a b. pick-sum (p t) (λ j. share c.tree_order (local_at ls j) t) 0 (length ls))
      ∙ sum-swap (λ t j. pick (p t) (share c.tree_order (local_at ls j) t) 0) 0 (trees_of c) 0 (length ls)
      ∙ sum-ext _ _ 0 (length ls) (λ j a b. sum-share c.tree_order (trees_of c) (local_at ls j) p (K.inside j))
      ∙ ap (λ (n : ℕ). sum (λ j. pick (local_at ls j).present (pick (p (tree_on c.tree_order (local_at ls j))) (local_at ls j).free 0) 0) 0 n) K.local_words

  -- ---- total free is the number of clear bits of all trees
  pub total-clear : total_free c ts ls ≡ sum (clear c.tree_order bs) 0 (trees_of c)
  unfolding total_free
  total-clear =
      let a : sum (λ t. (entry_at ts t).free + shares c.tree_order t ls) 0 (trees_of c) ≡ sum (clear c.tree_order bs) 0 (trees_of c) = sum-ext _ _ 0 (trees_of c) (λ t l m. tree_free t (omega arith)) in
      let e = sum-ext (λ j. pick (local_at ls j).present (local_at ls j).free 0) (λ j. (local_at ls j).free) 0 (local_count c.places) (λ j l m. own-free j) in
      omega (arith, a, e, locals-over (λ t. true), sum-plus (λ t. (entry_at ts t).free) (λ t. shares c.tree_order t ls) 0 (trees_of c))

  -- that is the number of frames below F whose bit is 0
  pub clear-frames : sum (clear c.tree_order bs) 0 (trees_of c) ≡ free_frames bs c.frames
  clear-frames =
      let w : length bs * 64 ≡ trees_of c * tree_frames c.tree_order = ap (λ (x : ℕ). x * 64) K.bit_words ∙ sym (count_bits c.tree_order sz c.frames) in
      let le : c.frames ≤ trees_of c * tree_frames c.tree_order = count-frames c.tree_order sz c.frames in
      let d : c.frames + (length bs * 64 - c.frames) ≡ trees_of c * tree_frames c.tree_order = omega arith in
      let a : held bs 0 (trees_of c * tree_frames c.tree_order) ≡ held bs 0 c.frames + held bs (0 + c.frames) (length bs * 64 - c.frames) =
      ap (held bs 0) (sym d) ∙ held-add bs 0 c.frames (length bs * 64 - c.frames) in
      let e : held bs (0 + c.frames) (length bs * 64 - c.frames) ≡ held bs c.frames (length bs * 64 - c.frames) = ap (λ (x : ℕ). held bs x (length bs * 64 - c.frames)) (zero-add c.frames) in
      omega (arith, clear-trees c.tree_order sz.least bs (trees_of c), free-held bs c.frames, K.past)

  pub total-free : total_free c ts ls ≡ free_frames bs c.frames
  total-free = total-clear ∙ clear-frames

  -- ---- the rows' free sum to it
  pub rows-free : sum (λ k. (tally c ts ls k).free) 0 8 ≡ total_free c ts ls
  unfolding tally entry_free local_free total_free local_count
  rows-free =
      omega (
        arith,
        sum-plus (λ k. over_class c ts k (λ t. (entry_at ts t).free)) (λ k. sum (λ i. (local_at ls (slot c.places k i)).free) 0 (locals_of c.places k)) 0 8,
        over-all c ts (λ t. (entry_at ts t).free) (λ t lt. (K.class t lt).0),
        sum-slots c.places (λ j. (local_at ls j).free) 8,
      )

  -- ---- frames in use of class k
  module _ (k : ℕ) where
    reserved-over : reserved_free c ts ls k ≡ over_class c ts k (λ t. shares c.tree_order t ls)
    unfolding reserved_free over_class
    reserved-over = sym (locals-over (λ t. eqb (entry_at ts t).class k))

    -- what is free of its trees
    free-over : entry_free c ts k + reserved_free c ts ls k ≡ over_class c ts k (clear c.tree_order bs)
    unfolding entry_free
    free-over =
        ap (λ (x : ℕ). over_class c ts k (λ t. (entry_at ts t).free) + x) reserved-over
        ∙ sym (over-plus c ts k (λ t. (entry_at ts t).free) (λ t. shares c.tree_order t ls))
        ∙ over-ext c ts k (λ t. (entry_at ts t).free + shares c.tree_order t ls) (clear c.tree_order bs) (λ t lt. tree_free t lt)

    -- all frames of its trees are clear or not
    all-over : tree_frames c.tree_order * over_class c ts k (λ t. 1) ≡ over_class c ts k (clear c.tree_order bs) + over_class c ts k (λ t. tree_frames c.tree_order - clear c.tree_order bs t)
    all-over =
        sym (over-times c ts k (tree_frames c.tree_order))
        ∙ over-ext c ts k (λ t. tree_frames c.tree_order) (λ t. clear c.tree_order bs t + (tree_frames c.tree_order - clear c.tree_order bs t)) (λ t lt. omega (arith, clear-held c.tree_order bs t sz.least))
        ∙ over-plus c ts k (clear c.tree_order bs) (λ t. tree_frames c.tree_order - clear c.tree_order bs t)

    -- no subtraction is cut off: in use and free of its trees are all their frames
    pub in-use-exact : in_use c ts ls k + entry_free c ts k + reserved_free c ts ls k ≡ tree_frames c.tree_order * over_class c ts k (λ t. 1)
    unfolding in_use
    in-use-exact = omega (arith, all-over, free-over)

    -- in use are the frames of its trees that are not free
    pub in_use-clear : in_use c ts ls k ≡ over_class c ts k (λ t. tree_frames c.tree_order - clear c.tree_order bs t)
    unfolding in_use
    in_use-clear = omega (arith, all-over, free-over)

    -- that is the frames of its trees whose bit is 1
    pub in-use-held : in_use c ts ls k ≡ over_class c ts k (λ t. held bs (t * tree_frames c.tree_order) (tree_frames c.tree_order))
    in-use-held = in_use-clear ∙ over-ext c ts k _ _ (λ t lt. omega (arith, clear-held c.tree_order bs t sz.least))

  -- free and in use are all frames of all trees
  pub used-and-free : sum (in_use c ts ls) 0 8 + total_free c ts ls ≡ trees_of c * tree_frames c.tree_order
  used-and-free =
      let a = sum-ext (in_use c ts ls) (λ k. over_class c ts k (λ t. tree_frames c.tree_order - clear c.tree_order bs t)) 0 8 (λ k l m. in_use-clear k) in
      let b = over-all c ts (λ t. tree_frames c.tree_order - clear c.tree_order bs t) (λ t lt. (K.class t lt).0) in
      let d = sum-plus (clear c.tree_order bs) (λ t. tree_frames c.tree_order - clear c.tree_order bs t) 0 (trees_of c) in
      let e = sum-ext (λ t. clear c.tree_order bs t + (tree_frames c.tree_order - clear c.tree_order bs t)) (λ t. tree_frames c.tree_order) 0 (trees_of c) (λ t l m. omega (arith, clear-held c.tree_order bs t sz.least)) in
      omega (arith, a, b, d, e, sum-const (tree_frames c.tree_order) (trees_of c), total-clear)
