-- The search by halves within one word, which is a bitmap by itself: its steps as the code has them, and what it says of the whole bitmap. Assumes nothing.
use Rattle.std.specs.Prelude.{◌≡◌, Bool, false, List, [], ◌∷◌, eqb, get_or, Option, Some, None}
use Rattle.std.proofs.Math.Path.{refl, sym, ap}
use Rattle.std.proofs.Common.{◌∙◌, mul-le-mul_left, pow_pos, pow_mono}
use Rattle.std.proofs.Math.Bool.{true}
use Prim.Native.Nat.{ℕ, ◌+◌, ◌-◌, ◌*◌, ◌/◌, ◌%◌, ◌^◌, ◌<◌, ◌≤◌}
use Rattle.std.proofs.Math.Nat.{mul_assoc, add-mul}
use native.Mathlib.Omega.{arith}
use Rattle.std.proofs.Math.Dec.{leb}
use borrow.Author.Tests.{eqb-true, le-leb}
use Rattle.rules.specs.Base.{first_in}
use Rattle.rules.specs.Lower.{held, held_in, hit}
use Rattle.law_rules.specs.Power.{pow-part, inside}
use Rattle.law_rules.specs.Held.{held-bits}
use Rattle.law_rules.specs.Block.{Block, half-left}
use Rattle.law_rules.specs.First.{first-sound, first-ext, first-shift, moved_by}
use Rattle.law_rules.specs.Seek.{seek_in, leaf, halves, held_none}
use Rattle.law_rules.specs.Tests.{free_part, held-part-test}

-- one word as a bitmap
abbrev pub word : ℕ → List ℕ
word w = w ∷ []

-- the number that was found, or d
abbrev pub found_or : ℕ → Option ℕ → ℕ
found_or d (Some i) = i
found_or d None = d

-- the first wholly free block of order v in the block i of order o of a word; 64 where there is none
unfoldable pub word_seek : ℕ → ℕ → ℕ → ℕ → ℕ
word_seek w o v i = found_or 64 (seek_in (word w) o v i 0)

-- a word's first block is all of it
pub word-block : (w : ℕ) → Block (word w) 6 0
word-block w = record { order = omega arith; inside = omega arith; small = omega arith }

-- the tests of a block within a word
module _ (w o j n : ℕ) (e : n ≡ 2 ^ o) (b : Block (word w) o j) where
  pub word-start : j * n + n ≤ 64
  word-start = let q : j * n ≡ j * 2 ^ o = ap (λ (x : ℕ). j * x) e in omega (arith, e, b.inside)

  module _ (r : ℕ) (q : r ≡ w / 2 ^ (j * n) % 2 ^ n) where
    field : r ≡ get_or (word w) (j * n / 64) 0 / 2 ^ (j * n % 64) % 2 ^ n
    field =
        let p : 0 < n = rw e (pow_pos o) in
        let a : j * n / 64 ≡ 0 = omega (arith, word-start) in
        let c : j * n % 64 ≡ j * n = omega (arith, word-start) in
        rw (a, c) q

    pub word-free : o < 6 → eqb r 0 ≡ eqb (held_in (word w) o j) 0
    word-free h = free_part (word w) o j n e r h field

    pub word_held : o < 6 → eqb r (1 * 2 ^ n % 2 ^ 64 - 1) ≡ eqb (held_in (word w) o j) (2 ^ o)
    word_held h = held-part-test (word w) o j n e r h field

-- what is found is one of the word's 64 at most
seek-lt : (w o v i j : ℕ) → v ≤ o → Block (word w) o i → seek_in (word w) o v i 0 ≡ Some j → j < 64
unfolding seek_in
seek-lt w o v i j h b e =
    let s = first-sound (hit (word w) v 0) (i * 2 ^ (o - v)) (2 ^ (o - v)) j e in
    let n = inside o v i j h s.low s.high in
    let p : 1 ≤ 2 ^ v = pow_pos v in
    let m : j * 1 ≤ j * 2 ^ v = mul-le-mul_left j p in
    omega (arith, n.high, b.inside)

-- the steps of the search
module _ (w o v i : ℕ) where
  module _ (r : Bool) (h : r ≡ eqb (held_in (word w) o i) 0) (e : o ≡ v) where
    pub word-yes : r ≡ true → i ≡ word_seek w o v i
    unfolding word_seek
    word-yes q = let s : seek_in (word w) o v i 0 ≡ Some i = leaf (word w) o v i 0 e (omega arith) ∙ simp (sym h ∙ q) in sym (ap (found_or 64) s)

    pub word-no : r ≡ false → 64 ≡ word_seek w o v i
    unfolding word_seek
    word-no q = let s : seek_in (word w) o v i 0 ≡ None = leaf (word w) o v i 0 e (omega arith) ∙ simp (sym h ∙ q) in sym (ap (found_or 64) s)

  module _ (more : v ≤ o) (ne : o ≡ v → ⊥) where
    -- the left half is wholly held
    pub word-right : (p : Bool) (y : ℕ) → p ≡ eqb (held_in (word w) (o - 1) (i * 2)) (2 ^ (o - 1)) → p ≡ true → y ≡ word_seek w (o - 1) v (i * 2 + 1) → y ≡ word_seek w o v i
    unfolding word_seek
    word-right p y e t q =
        let a : held_in (word w) (o - 1) (i * 2) ≡ 2 ^ (o - 1) = eqb-true _ _ (sym e ∙ t) in
        let s : seek_in (word w) o v i 0 ≡ seek_in (word w) (o - 1) v (i * 2 + 1) 0 =
        halves (word w) o v i 0 (omega arith) ∙ simp (held_none (word w) (o - 1) v (i * 2) 0 (omega arith) a) in
        q ∙ sym (ap (found_or 64) s)

    -- the left half is sought: x below 64 is its answer
    module _ (x : ℕ) (l : x ≡ word_seek w (o - 1) v (i * 2)) where
      pub word-left : x < 64 → x ≡ word_seek w o v i
      unfolding word_seek
      word-left h = go (seek_in (word w) (o - 1) v (i * 2) 0) refl l
        where
          go : (f : Option ℕ) → seek_in (word w) (o - 1) v (i * 2) 0 ≡ f → x ≡ found_or 64 f → x ≡ found_or 64 (seek_in (word w) o v i 0)
          go (Some j) e q = let s : seek_in (word w) o v i 0 ≡ Some j = halves (word w) o v i 0 (omega arith) ∙ simp e in q ∙ sym (ap (found_or 64) s)
          go None e q = absurd (omega arith)

      pub word_next : Block (word w) o i → 64 ≤ x → (y : ℕ) → y ≡ word_seek w (o - 1) v (i * 2 + 1) → y ≡ word_seek w o v i
      unfolding word_seek
      word_next b h y r = go (seek_in (word w) (o - 1) v (i * 2) 0) refl l
        where
          go : (f : Option ℕ) → seek_in (word w) (o - 1) v (i * 2) 0 ≡ f → x ≡ found_or 64 f → y ≡ found_or 64 (seek_in (word w) o v i 0)
          go (Some j) e q = absurd (omega (arith, seek-lt w (o - 1) v (i * 2) j (omega arith) (half-left (word w) o v i more ne b) e))
          go None e q =
              let s : seek_in (word w) o v i 0 ≡ seek_in (word w) (o - 1) v (i * 2 + 1) 0 = halves (word w) o v i 0 (omega arith) ∙ simp e in
              r ∙ sym (ap (found_or 64) s)

-- what the word says of the bitmap
module _ (ws : List ℕ) (o q : ℕ) (h : o < 6) where
  same-held : (i : ℕ) → i < 2 ^ (6 - o) → held_in ws o (q * 2 ^ (6 - o) + i) ≡ held_in (word (get_or ws q 0)) o i
  unfolding held_in
  same-held i l =
      let p : 64 ≡ 2 ^ (6 - o) * 2 ^ o = pow-part 6 o (omega arith) in
      let a : (q * 2 ^ (6 - o) + i) * 2 ^ o ≡ q * 2 ^ (6 - o) * 2 ^ o + i * 2 ^ o = add-mul (q * 2 ^ (6 - o)) i (2 ^ o) in
      let b : q * 2 ^ (6 - o) * 2 ^ o ≡ q * 64 = mul_assoc q (2 ^ (6 - o)) (2 ^ o) ∙ ap (λ (x : ℕ). q * x) (sym p) in
      let n = inside 6 o 0 i (omega arith) (omega arith) (omega arith) in
      let c : i * 2 ^ o + 2 ^ o ≤ 64 = omega (arith, n.high) in
      let d : (q * 2 ^ (6 - o) + i) * 2 ^ o ≡ q * 64 + i * 2 ^ o = omega arith in
      let f : 0 * 64 + i * 2 ^ o ≡ i * 2 ^ o = omega arith in
      ap (λ (x : ℕ). held ws x (2 ^ o)) d ∙ held-bits ws q (i * 2 ^ o) (2 ^ o) c
      ∙ sym (held-bits (word (get_or ws q 0)) 0 (i * 2 ^ o) (2 ^ o) c) ∙ ap (λ (x : ℕ). held (word (get_or ws q 0)) x (2 ^ o)) f

  moved : seek_in ws 6 o q 0 ≡ moved_by (q * 2 ^ (6 - o)) (seek_in (word (get_or ws q 0)) 6 o 0 0)
  unfolding seek_in
  moved =
      let b : ℕ = q * 2 ^ (6 - o) in
      let z : 0 * 2 ^ (6 - o) ≡ 0 = omega arith in
      let a : q * 2 ^ (6 - o) + 0 ≡ q * 2 ^ (6 - o) = omega arith in
      let s : first_in (λ i. hit ws o 0 (q * 2 ^ (6 - o) + i)) 0 (2 ^ (6 - o)) ≡ first_in (hit (word (get_or ws q 0)) o 0) 0 (2 ^ (6 - o)) =
      first-ext (λ i. hit ws o 0 (q * 2 ^ (6 - o) + i)) (hit (word (get_or ws q 0)) o 0) 0 (2 ^ (6 - o)) (λ i l m.
      let x : leb 0 (q * 2 ^ (6 - o) + i) ≡ true = le-leb 0 (q * 2 ^ (6 - o) + i) (omega arith) in
      let y : leb 0 i ≡ true = le-leb 0 i (omega arith) in
      simp (x, y, same-held i (omega arith))) in
      ap (λ (x : ℕ). first_in (hit ws o 0) x (2 ^ (6 - o))) (sym a) ∙ first-shift (hit ws o 0) (q * 2 ^ (6 - o)) 0 (2 ^ (6 - o))
      ∙ ap (moved_by (q * 2 ^ (6 - o))) (s ∙ ap (λ (x : ℕ). first_in (hit (word (get_or ws q 0)) o 0) x (2 ^ (6 - o))) (sym z))

  module _ (x n : ℕ) (e : x ≡ word_seek (get_or ws q 0) 6 o 0) where
    pub word-found : n ≡ 2 ^ (6 - o) → x < 64 → Some (q * n + x) ≡ seek_in ws 6 o q 0
    unfolding word_seek
    word-found p l = go (seek_in (word (get_or ws q 0)) 6 o 0 0) refl e
      where
        go : (f : Option ℕ) → seek_in (word (get_or ws q 0)) 6 o 0 0 ≡ f → x ≡ found_or 64 f → Some (q * n + x) ≡ seek_in ws 6 o q 0
        go (Some j) d r = let s : seek_in ws 6 o q 0 ≡ Some (q * 2 ^ (6 - o) + j) = moved ∙ simp d in sym (rw (p, r) s)
        go None d r = absurd (omega arith)

    pub word_none : 64 ≤ x → None ≡ seek_in ws 6 o q 0
    unfolding word_seek
    word_none l = go (seek_in (word (get_or ws q 0)) 6 o 0 0) refl e
      where
        go : (f : Option ℕ) → seek_in (word (get_or ws q 0)) 6 o 0 0 ≡ f → x ≡ found_or 64 f → None ≡ seek_in ws 6 o q 0
        go (Some j) d r = absurd (omega (arith, seek-lt (get_or ws q 0) 6 o 0 j (omega arith) (word-block (get_or ws q 0)) d))
        go None d r = let s : seek_in ws 6 o q 0 ≡ None = moved ∙ simp d in sym s

-- the product that the code makes fits
pub word-mul : (o q n : ℕ) → n ≡ 2 ^ (6 - o) → q * n ≤ q * 64
word-mul o q n e = mul-le-mul_left q (rw e (pow_mono {i = 6 - o} {j = 6} (omega arith)))
