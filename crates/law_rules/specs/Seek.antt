-- The search by halves: `seek_in` is the first free block not before `from` in the block i of order o; its steps as the code has them. Assumes nothing.
use Rattle.std.specs.Prelude.{◌≡◌, refl, Bool, true, false, List, ℕ, suc, ◌+◌, ◌-◌, ◌*◌, ◌/◌, ◌^◌, ◌<◌, ◌≤◌, eqb, leb, ltb, Option, Some, None}
use Rattle.std.proofs.Common.{sym, ap, ◌∙◌, mul-le-mul_right, div-mul-le_self, arith, pow_pos, shr-shr, le-leb, ne_eqb, eqb-true, ltb-true, ltb-false}
use Rattle.std.proofs.lemmas.Bool.{lt-leb}
use Rattle.rules.specs.Base.{pick, either, or_found, first_in}
use Rattle.rules.specs.Lower.{held_in, hit}
use Rattle.law_rules.specs.All.{both_false}
use Rattle.law_rules.specs.Power.{inside, row_up, row_first}
use Rattle.law_rules.specs.Run.{held-part-of}
use Rattle.law_rules.specs.First.{first-none, first-half, first_leaf, first-ext}

-- the first wholly free block of order w, not before the block `from`, in the block i of order o
unfoldable pub seek_in : List ℕ → ℕ → ℕ → ℕ → ℕ → Option ℕ
seek_in ws o w i from = first_in (hit ws w from) (i * 2 ^ (o - w)) (2 ^ (o - w))

-- the search as the definition of the lower's search has it
pub seek_is : (ws : List ℕ) (o w i from : ℕ) → first_in (hit ws w from) (i * 2 ^ (o - w)) (2 ^ (o - w)) ≡ seek_in ws o w i from
unfolding seek_in
seek_is ws o w i from = refl

-- whether the search from a row passes over a block of whole words: all of it lies before the row, or it is wholly held
unfoldable pub passed_by : List ℕ → ℕ → ℕ → ℕ → Bool
passed_by ws o i row = either (ltb i (row / 2 ^ (o - 6))) (eqb (held_in ws o i) (2 ^ o))

-- where `from` is not past the first block, it makes no difference
pub seek-all : (ws : List ℕ) (o w i from : ℕ) → from ≤ i * 2 ^ (o - w) → seek_in ws o w i from ≡ seek_in ws o w i 0
unfolding seek_in
seek-all ws o w i from h = first-ext (hit ws w from) (hit ws w 0) (i * 2 ^ (o - w)) (2 ^ (o - w)) (λ j l m.
    let a : leb from j ≡ true = le-leb from j (omega arith) in
    let b : leb 0 j ≡ true = le-leb 0 j (omega arith) in
    simp (a, b))

-- a block that is wholly held has no free block in it
pub held_none : (ws : List ℕ) (o w i from : ℕ) → w ≤ o → held_in ws o i ≡ 2 ^ o → seek_in ws o w i from ≡ None
unfolding seek_in held_in
held_none ws o w i from h e =
    first-none (hit ws w from) (i * 2 ^ (o - w)) (2 ^ (o - w)) (λ j l m.
    let n = inside o w i j h l m in
    let q : held_in ws w j ≡ 2 ^ w = held-part-of ws (i * 2 ^ o) (2 ^ o) (j * 2 ^ w) (2 ^ w) e n.low n.high in
    let p : 0 < 2 ^ w = pow_pos w in
    both_false (leb from j) (eqb (held_in ws w j) 0) (ne_eqb (held_in ws w j) 0 (λ z. omega arith)))

-- nor has one that lies before the row's block
before-none : (ws : List ℕ) (o w i from : ℕ) → i < from / 2 ^ (o - w) → seek_in ws o w i from ≡ None
unfolding seek_in
before-none ws o w i from h =
    let k : ℕ = o - w in
    let a : suc i * 2 ^ k ≤ from / 2 ^ k * 2 ^ k = mul-le-mul_right (2 ^ k) h in
    let b : from / 2 ^ k * 2 ^ k ≤ from = div-mul-le_self from (2 ^ k) in
    first-none (hit ws w from) (i * 2 ^ k) (2 ^ k) (λ j l m. simp (lt-leb from j (omega arith)))

passed_none : (ws : List ℕ) (o w i row : ℕ) → 6 ≤ o → w ≤ o → passed_by ws o i row ≡ true → seek_in ws o w i (row * 64 / 2 ^ w) ≡ None
unfolding passed_by
passed_none ws o w i row g h e = go (ltb i (row / 2 ^ (o - 6))) refl e
  where
    go : (t : Bool) → ltb i (row / 2 ^ (o - 6)) ≡ t → either t (eqb (held_in ws o i) (2 ^ o)) ≡ true → seek_in ws o w i (row * 64 / 2 ^ w) ≡ None
    go true q p = before-none ws o w i (row * 64 / 2 ^ w) (rw (row_up o w row g h) (ltb-true i _ q))
    go false q p = held_none ws o w i (row * 64 / 2 ^ w) h (eqb-true (held_in ws o i) (2 ^ o) p)

passed-not : (ws : List ℕ) (o i row : ℕ) → passed_by ws o i row ≡ false → row / 2 ^ (o - 6) ≤ i
unfolding passed_by
passed-not ws o i row e = go (ltb i (row / 2 ^ (o - 6))) refl e
  where
    go : (t : Bool) → ltb i (row / 2 ^ (o - 6)) ≡ t → either t (eqb (held_in ws o i) (2 ^ o)) ≡ false → row / 2 ^ (o - 6) ≤ i
    go true q p = absurd (let z : ◌≡◌ {A = ℕ} 0 1 = cc in omega arith)
    go false q p = ltb-false i _ q

-- the block itself is the one sought
pub leaf : (ws : List ℕ) (o w i from : ℕ) → o ≡ w → from ≤ i → seek_in ws o w i from ≡ pick (eqb (held_in ws o i) 0) (Some i) None
unfolding seek_in
leaf ws o w i from e l =
    let k : leb from i ≡ true = le-leb from i l in
    first_leaf (hit ws w from) o w i e ∙ simp (k, e)

-- its halves
pub halves : (ws : List ℕ) (o w i from : ℕ) → w < o → seek_in ws o w i from ≡ or_found (seek_in ws (o - 1) w (i * 2) from) (seek_in ws (o - 1) w (i * 2 + 1) from)
unfolding seek_in
halves ws o w i from h = first-half (hit ws w from) o w i h

-- a row that is not past a block is not past its right half
pub right-reached : (o i row : ℕ) → 6 ≤ o → (o ≡ 6 → ⊥) → row / 2 ^ (o - 6) ≤ i → row / 2 ^ (o - 1 - 6) ≤ i * 2 + 1
right-reached o i row g nw h =
    let q : (o - 1 - 6) + 1 ≡ o - 6 = omega arith in
    let e : row / 2 ^ (o - 1 - 6) / 2 ≡ row / 2 ^ (o - 6) = shr-shr row (o - 1 - 6) 1 ∙ ap (λ (x : ℕ). row / 2 ^ x) q in
    omega arith

-- the steps in a block of whole words, from a row, over the search's own answers
module _ (ws : List ℕ) (o w i row : ℕ) (g : 6 ≤ o) (more : w ≤ o) where
  module _ (r : Bool) (h : r ≡ eqb (held_in ws o i) 0) (e : o ≡ w) (l : row / 2 ^ (o - 6) ≤ i) where
    start : row * 64 / 2 ^ w ≤ i
    start =
        let z : o - w ≡ 0 = omega arith in
        let u : row * 64 / 2 ^ w / 2 ^ (o - w) ≡ row / 2 ^ (o - 6) = row_up o w row g more in
        let v : row * 64 / 2 ^ w / 2 ^ 0 ≡ row / 2 ^ (o - 6) = rw z at u in
        omega arith

    pub leaf-yes : r ≡ true → Some i ≡ seek_in ws o w i (row * 64 / 2 ^ w)
    leaf-yes q = sym (leaf ws o w i (row * 64 / 2 ^ w) e start ∙ simp (sym h ∙ q))

    pub leaf-no : r ≡ false → None ≡ seek_in ws o w i (row * 64 / 2 ^ w)
    leaf-no q = sym (leaf ws o w i (row * 64 / 2 ^ w) e start ∙ simp (sym h ∙ q))

  -- a word
  pub at-word : (r : Option ℕ) → o ≡ 6 → row / 2 ^ (o - 6) ≤ i → r ≡ seek_in ws 6 w i 0 → r ≡ seek_in ws o w i (row * 64 / 2 ^ w)
  at-word r e l q =
      let z : o - 6 ≡ 0 = omega arith in
      let m : row / 2 ^ 0 ≤ i = rw z at l in
      let b : row * 64 / 2 ^ w ≤ i * 2 ^ (6 - w) = row_first w row i (omega arith) (omega arith) in
      let c : row * 64 / 2 ^ w ≤ i * 2 ^ (o - w) = rw e b in
      q ∙ ap (λ (x : ℕ). seek_in ws x w i 0) (sym e) ∙ sym (seek-all ws o w i (row * 64 / 2 ^ w) c)

  module _ (ne : o ≡ w → ⊥) (nw : o ≡ 6 → ⊥) where
    split2 : seek_in ws o w i (row * 64 / 2 ^ w) ≡ or_found (seek_in ws (o - 1) w (i * 2) (row * 64 / 2 ^ w)) (seek_in ws (o - 1) w (i * 2 + 1) (row * 64 / 2 ^ w))
    split2 = halves ws o w i (row * 64 / 2 ^ w) (omega arith)

    -- the left half is passed over
    pub right-only : (p : Bool) (y : Option ℕ) → p ≡ passed_by ws (o - 1) (i * 2) row → p ≡ true → y ≡ seek_in ws (o - 1) w (i * 2 + 1) (row * 64 / 2 ^ w) → y ≡ seek_in ws o w i (row * 64 / 2 ^ w)
    right-only p y e t r = r ∙ sym (split2 ∙ simp (passed_none ws (o - 1) w (i * 2) row (omega arith) (omega arith) (sym e ∙ t)))

    -- the left half is sought
    module _ (x : Option ℕ) (l : x ≡ seek_in ws (o - 1) w (i * 2) (row * 64 / 2 ^ w)) where
      pub from-left : (j : ℕ) → x ≡ Some j → Some j ≡ seek_in ws o w i (row * 64 / 2 ^ w)
      from-left j e = sym (split2 ∙ simp (sym l ∙ e))

      pub from-right : (y : Option ℕ) → x ≡ None → y ≡ seek_in ws (o - 1) w (i * 2 + 1) (row * 64 / 2 ^ w) → y ≡ seek_in ws o w i (row * 64 / 2 ^ w)
      from-right y e r = sym (split2 ∙ simp (sym l ∙ e, sym r))

    -- the row is not past the left half, where that is not passed over
    pub left-reached : (p : Bool) → p ≡ passed_by ws (o - 1) (i * 2) row → p ≡ false → row / 2 ^ (o - 1 - 6) ≤ i * 2
    left-reached p e f = passed-not ws (o - 1) (i * 2) row (sym e ∙ f)
