-- One block in the ledger and in the bitmap: what is held, and the frames of each tree. Assumes nothing.
use Rattle.std.specs.Prelude.{◌≡◌, Bool, true, false, not, ◌⊎◌, List, ℕ, ◌+◌, ◌*◌, ◌/◌, ◌^◌, ◌<◌, ◌≤◌, eqb, leb, ltb, length}
use Rattle.std.proofs.Common.{sym, ◌∙◌, subst, inl, inr, arith, leb-true, ltb-true, le-leb, lt-ltb, le-ltb, eq-eqb, ne_eqb}
use Rattle.std.proofs.Math.Path.{ap}
use Rattle.std.proofs.Math.Decide.{ℕ_discrete, dec_lt, dec_le}
use Rattle.std.proofs.lemmas.Nat.{shl-shr}
use Rattle.std.proofs.lemmas.Bool.{lt-leb}
use Rattle.rules.specs.Base.{pick, both, either, bit_of}
use Rattle.rules.specs.Words.{tree_frames, local_at}
use Rattle.rules.specs.Lower.{bit, held_in, held, clear, mark}
use Rattle.rules.specs.declared.Local.{Local}
use Rattle.rules_calls.specs.Standing.{tree_on}
use Rattle.law_rules.specs.Block.{Block}
use Rattle.law_rules.specs.Power.{Inside, in_tree}
use Rattle.law_rules.specs.Sum.{sum-ext, zero-at, one_at}
use Rattle.law_rules.specs.Held.{bit_le}
use Rattle.law_rules.specs.Mark.{Marked, marked}
use Rattle.law_rules.specs.Clear.{clear-take, clear-give, clear-other}
use Rattle.law_rules.specs.All.{both_left, both_right, both_true, both_false}
use Rattle.thm_hand.specs.Hand.{here, share, shares}
use Rattle.thm_sequence.specs.Demand.{frames_in, in_block, reserved_on}

-- ---- a frame of a block, or beside it
in-true : (o f x : ℕ) → f ≤ x → x < f + 2 ^ o → in_block o f x ≡ true
unfolding in_block
in-true o f x a b = both_true (leb f x) (ltb x (f + 2 ^ o)) (le-leb _ _ a) (lt-ltb _ _ b)

in-false : (o f x : ℕ) → (x < f) ⊎ (f + 2 ^ o ≤ x) → in_block o f x ≡ false
unfolding in_block
in-false o f x (inl a) = rw (lt-leb f x a)
in-false o f x (inr a) = both_false (leb f x) (ltb x (f + 2 ^ o)) (le-ltb _ _ a)

pub in-block : (o f x : ℕ) → in_block o f x ≡ true → (f ≤ x) × (x < f + 2 ^ o)
unfolding in_block
in-block o f x e = (leb-true _ _ (both_left (leb f x) (ltb x (f + 2 ^ o)) e), ltb-true _ _ (both_right (leb f x) (ltb x (f + 2 ^ o)) e))

beside : (o f x : ℕ) → ((f ≤ x) × (x < f + 2 ^ o)) ⊎ ((x < f) ⊎ (f + 2 ^ o ≤ x))
beside o f x = go (dec_le f x) (dec_lt x (f + 2 ^ o))
  where
    go : Dec (f ≤ x) → Dec (x < f + 2 ^ o) → ((f ≤ x) × (x < f + 2 ^ o)) ⊎ ((x < f) ⊎ (f + 2 ^ o ≤ x))
    go (no a) d = inr (inl (omega arith))
    go (yes a) (no b) = inr (inr (omega arith))
    go (yes a) (yes b) = inl (a, b)

-- outside a marked block nothing changes
outside : (v : Bool) (ws us : List ℕ) (a n x : ℕ) → Marked v ws us a n → (x < a) ⊎ (a + n ≤ x) → bit us x ≡ bit ws x
outside v ws us a n x m (inl l) = m.below x l
outside v ws us a n x m (inr l) = m.above x l

-- ---- the block j of order o of the bitmap ws
module _ (ws : List ℕ) (o j : ℕ) (b : Block ws o j) where
  -- a wholly free one: no frame of it is held
  pub free-frame : held_in ws o j ≡ 0 → (x : ℕ) → in_block o (j * 2 ^ o) x ≡ true → bit ws x ≡ 0
  unfolding held_in held
  free-frame e x i = let v = in-block o (j * 2 ^ o) x i in zero-at (bit ws) (j * 2 ^ o) (2 ^ o) e x v.0 v.1

  -- a wholly held one: each frame of it is
  pub held-frame : held_in ws o j ≡ 2 ^ o → (x : ℕ) → in_block o (j * 2 ^ o) x ≡ true → bit ws x ≡ 1
  unfolding held_in held
  held-frame e x i = let v = in-block o (j * 2 ^ o) x i in one_at (bit ws) (j * 2 ^ o) (2 ^ o) (bit_le ws) e x v.0 v.1

  -- taken: held by the ledger too
  pub take-agrees : (x : ℕ) (h : Bool) → bit_of h ≡ bit ws x → bit_of (either (in_block o (j * 2 ^ o) x) h) ≡ bit (mark true ws o j) x
  take-agrees x h e = go (beside o (j * 2 ^ o) x)
    where
      go : ((j * 2 ^ o ≤ x) × (x < j * 2 ^ o + 2 ^ o)) ⊎ ((x < j * 2 ^ o) ⊎ (j * 2 ^ o + 2 ^ o ≤ x)) → bit_of (either (in_block o (j * 2 ^ o) x) h) ≡ bit (mark true ws o j) x
      go (inl i) = ap (λ (y : Bool). bit_of (either y h)) (in-true o (j * 2 ^ o) x i.0 i.1) ∙ sym ((marked true ws o j b).inside x i.0 i.1)
      go (inr i) = ap (λ (y : Bool). bit_of (either y h)) (in-false o (j * 2 ^ o) x i) ∙ e ∙ sym (outside true ws (mark true ws o j) (j * 2 ^ o) (2 ^ o) x (marked true ws o j b) i)

  -- given back: no longer held by the ledger
  pub give-agrees : (x : ℕ) (h : Bool) → bit_of h ≡ bit ws x → bit_of (both (not (in_block o (j * 2 ^ o) x)) h) ≡ bit (mark false ws o j) x
  give-agrees x h e = go (beside o (j * 2 ^ o) x)
    where
      go : ((j * 2 ^ o ≤ x) × (x < j * 2 ^ o + 2 ^ o)) ⊎ ((x < j * 2 ^ o) ⊎ (j * 2 ^ o + 2 ^ o ≤ x)) → bit_of (both (not (in_block o (j * 2 ^ o) x)) h) ≡ bit (mark false ws o j) x
      go (inl i) = ap (λ (y : Bool). bit_of (both (not y) h)) (in-true o (j * 2 ^ o) x i.0 i.1) ∙ sym ((marked false ws o j b).inside x i.0 i.1)
      go (inr i) = ap (λ (y : Bool). bit_of (both (not y) h)) (in-false o (j * 2 ^ o) x i) ∙ e ∙ sym (outside false ws (mark false ws o j) (j * 2 ^ o) (2 ^ o) x (marked false ws o j b) i)

  -- the frames of each tree
  module _ (z : ℕ) (six : 6 ≤ z) (le : o ≤ z) where
    -- the tree of the block
    its-tree : Inside z o (j * 2 ^ o / tree_frames z) j
    its-tree = subst (Inside z o (j * 2 ^ o / tree_frames z)) (shl-shr j o) (in_tree z o (j * 2 ^ o) le)

    in-this : (t : ℕ) → j * 2 ^ o / tree_frames z ≡ t → frames_in z t o (j * 2 ^ o) ≡ 2 ^ o
    unfolding frames_in
    in-this t e = ap (λ (y : Bool). pick y (2 ^ o) 0) (eq-eqb (j * 2 ^ o / tree_frames z) t e)

    in-other : (t : ℕ) → (j * 2 ^ o / tree_frames z ≡ t → ⊥) → frames_in z t o (j * 2 ^ o) ≡ 0
    unfolding frames_in
    in-other t e = ap (λ (y : Bool). pick y (2 ^ o) 0) (ne_eqb (j * 2 ^ o / tree_frames z) t e)

    pub take-counts : held_in ws o j ≡ 0 → (t : ℕ) → clear z (mark true ws o j) t + frames_in z t o (j * 2 ^ o) ≡ clear z ws t
    take-counts e t = go (ℕ_discrete (j * 2 ^ o / tree_frames z) t)
      where
        go : Dec (j * 2 ^ o / tree_frames z ≡ t) → clear z (mark true ws o j) t + frames_in z t o (j * 2 ^ o) ≡ clear z ws t
        go (yes d) = omega (arith, in-this t d, clear-take z ws o j t six b (subst (λ (x : ℕ). Inside z o x j) d its-tree) e)
        go (no d) = omega (arith, in-other t d, clear-other z ws o j t six b true (j * 2 ^ o / tree_frames z) its-tree (λ q. d (sym q)))

    pub give-counts : held_in ws o j ≡ 2 ^ o → (t : ℕ) → clear z (mark false ws o j) t ≡ clear z ws t + frames_in z t o (j * 2 ^ o)
    give-counts e t = go (ℕ_discrete (j * 2 ^ o / tree_frames z) t)
      where
        go : Dec (j * 2 ^ o / tree_frames z ≡ t) → clear z (mark false ws o j) t ≡ clear z ws t + frames_in z t o (j * 2 ^ o)
        go (yes d) = omega (arith, in-this t d, clear-give z ws o j t six b (subst (λ (x : ℕ). Inside z o x j) d its-tree) e)
        go (no d) = omega (arith, in-other t d, clear-other z ws o j t six b false (j * 2 ^ o / tree_frames z) its-tree (λ q. d (sym q)))

-- ---- the count of the reservation on a tree is what the locals have of it
reserved-share : (z : ℕ) (l : Local) (t : ℕ) → pick l.present (pick (eqb (tree_on z l) t) l.free 0) 0 ≡ share z l t
unfolding share here
reserved-share z l t = ap (λ (y : Bool). pick l.present (pick y l.free 0) 0) (go (ℕ_discrete t (tree_on z l)))
  where
    go : Dec (t ≡ tree_on z l) → eqb (tree_on z l) t ≡ eqb t (tree_on z l)
    go (yes e) = eq-eqb (tree_on z l) t (sym e) ∙ sym (eq-eqb t (tree_on z l) e)
    go (no e) = ne_eqb (tree_on z l) t (λ q. e (sym q)) ∙ sym (ne_eqb t (tree_on z l) e)

pub reserved-is : (z : ℕ) (ls : List ℕ) (t : ℕ) → reserved_on z ls t ≡ shares z t ls
unfolding reserved_on shares
reserved-is z ls t =
    sum-ext (λ j. pick (local_at ls j).present (pick (eqb (tree_on z (local_at ls j)) t) (local_at ls j).free 0) 0) (λ j. share z (local_at ls j) t) 0 (length ls)
    (λ j x y. reserved-share z (local_at ls j) t)
