-- A block's frames all held, or all free: exactly its own bits change, and so do the counts. Assumes nothing.
use Rattle.std.specs.Prelude.{◌≡◌, refl, Bool, true, false, ltb, get_or, length, set}
use Rattle.std.proofs.Common.{sym, ap, ap₂, ◌∙◌, ⊎_elim, add-one, arith, length-set, get_or-set_same, get_or-set_other, pow_pos, ltb-true, ltb-false}
use mathlib.Core.List.{List}
use Prim.Native.Nat.{ℕ, zero, suc, ◌+◌, ◌*◌, ◌/◌, ◌%◌, ◌^◌, ◌<◌, ◌≤◌}
use Rattle.std.proofs.Math.Nat.{le_dest}
use Rattle.std.proofs.Math.Pow.{ones_lt}
use Rattle.rules.specs.Base.{bit_of, sum}
use Rattle.rules.specs.Lower.{bit_at, bit, held, put_field, full, set_words, set_part, mark}
use Rattle.law_rules.specs.Cases.{by-eq, below_or}
use Rattle.law_rules.specs.Block.{Block}
use Rattle.law_rules.specs.Sum.{sum-add, sum-ext, sum-all, sum-zero}
use Rattle.law_rules.specs.Power.{in-word, whole}
use Rattle.law_rules.specs.Field.{put-below, put_in, put-above, bit-every, bit-none}

-- what that says of the frames
pub record Marked (v : Bool) (ws ws' : List ℕ) (a n : ℕ) : Type 0 where
  pub len : length ws' ≡ length ws
  pub inside : (f : ℕ) → a ≤ f → f < a + n → bit ws' f ≡ bit_of v
  pub below : (f : ℕ) → f < a → bit ws' f ≡ bit ws f
  pub above : (f : ℕ) → a + n ≤ f → bit ws' f ≡ bit ws f

full-bit : (v : Bool) (n k : ℕ) → k < n → bit_at (full v n) k ≡ bit_of v
full-bit true n k h = bit-every n k h
full-bit false n k h = bit-none k

full-lt : (v : Bool) (n : ℕ) → full v n < 2 ^ n
full-lt true n = ones_lt n
full-lt false n = pow_pos n

module _ (v : Bool) (ws : List ℕ) (q s n : ℕ) (fits : s + n ≤ 64) (here : q < length ws) where
  -- a frame of the word, and of another
  same_word : (f : ℕ) → f / 64 ≡ q → bit (set_part v ws q s n) f ≡ bit_at (put_field (get_or ws q 0) s n (full v n)) (f % 64)
  same_word f e = ap (λ (x : ℕ). bit_at x (f % 64)) (ap (λ (x : ℕ). get_or (set_part v ws q s n) x 0) e ∙ get_or-set_same ws q _ 0 here)

  other_word : (f : ℕ) → (f / 64 ≡ q → ⊥) → bit (set_part v ws q s n) f ≡ bit ws f
  other_word f e = ap (λ (x : ℕ). bit_at x (f % 64)) (get_or-set_other ws q (f / 64) _ 0 e)

  pub marked-part : Marked v ws (set_part v ws q s n) (q * 64 + s) n
  marked-part = record {
    len = length-set ws q _;
    inside = λ f l m.
        let d = le_dest l in
        let k : ℕ = d.0 in
        let a : f % 64 ≡ s + k = omega arith in
        same_word f (omega arith) ∙ ap (bit_at (put_field (get_or ws q 0) s n (full v n))) a
        ∙ put_in (get_or ws q 0) s n (full v n) (full-lt v n) k (omega arith) ∙ full-bit v n k (omega arith);
    below = λ f l. by-eq (f / 64) q
        (λ e. same_word f e ∙ put-below (get_or ws q 0) s n (full v n) (full-lt v n) (f % 64) (omega arith) ∙ ap (λ (x : ℕ). bit_at (get_or ws x 0) (f % 64)) (sym e))
        (other_word f);
    above = λ f l. by-eq (f / 64) q
        (λ e.
        let g : s + n ≤ f % 64 = omega arith in
        let d = le_dest g in
        let a : f % 64 ≡ s + (n + d.0) = omega arith in
        same_word f e ∙ ap (bit_at (put_field (get_or ws q 0) s n (full v n))) a ∙ put-above (get_or ws q 0) s n (full v n) (full-lt v n) d.0
        ∙ ap₂ (λ (x y : ℕ). bit_at (get_or ws x 0) y) (sym e) (sym a))
        (other_word f);
  }

-- a whole word
pub marked-word : (v : Bool) (ws : List ℕ) (q : ℕ) → q < length ws → Marked v ws (set ws q (full v 64)) (q * 64) 64
marked-word v ws q here = record {
  len = length-set ws q _;
  inside = λ f l m.
      let e : f / 64 ≡ q = omega arith in
      ap (λ (x : ℕ). bit_at x (f % 64)) (ap (λ (x : ℕ). get_or (set ws q (full v 64)) x 0) e ∙ get_or-set_same ws q _ 0 here) ∙ full-bit v 64 (f % 64) (omega arith);
  below = λ f l. ap (λ (x : ℕ). bit_at x (f % 64)) (get_or-set_other ws q (f / 64) _ 0 (λ e. omega arith));
  above = λ f l. ap (λ (x : ℕ). bit_at x (f % 64)) (get_or-set_other ws q (f / 64) _ 0 (λ e. omega arith));
}

-- one after the other
pub marked-join : (v : Bool) (ws us vs : List ℕ) (a n m : ℕ) → Marked v ws us a n → Marked v us vs (a + n) m → Marked v ws vs a (n + m)
marked-join v ws us vs a n m p r = record {
  len = r.len ∙ p.len;
  inside = λ f l h. ⊎_elim
      (λ k. r.below f k ∙ p.inside f l k)
      (λ k. r.inside f k (omega arith))
      (below_or f (a + n));
  below = λ f l. r.below f (omega arith) ∙ p.below f l;
  above = λ f l. r.above f (omega arith) ∙ p.above f (omega arith);
}

pub marked-none : (v : Bool) (ws : List ℕ) (a : ℕ) → Marked v ws ws a 0
marked-none v ws a = record { len = refl; inside = λ f l m. absurd (omega arith); below = λ f l. refl; above = λ f l. refl }

pub marked-words : (v : Bool) (ws : List ℕ) (q k : ℕ) → q + k ≤ length ws → Marked v ws (set_words ws q k (full v 64)) (q * 64) (k * 64)
marked-words v ws q zero h = marked-none v ws (q * 64)
marked-words v ws q (suc k) h =
    let us : List ℕ = set_words ws q k (full v 64) in
    let p : Marked v ws us (q * 64) (k * 64) = marked-words v ws q k (omega arith) in
    let here : q + k < length us = omega (arith, p.len) in
    let r : Marked v us (set us (q + k) (full v 64)) ((q + k) * 64) 64 = marked-word v us (q + k) here in
    let a : (q + k) * 64 ≡ q * 64 + k * 64 = omega arith in
    let b : suc k * 64 ≡ k * 64 + 64 = omega arith in
    rw b (marked-join v ws us _ (q * 64) (k * 64) 64 p (rw a at r))

-- a block
pub marked : (v : Bool) (ws : List ℕ) (o j : ℕ) → Block ws o j → Marked v ws (mark v ws o j) (j * 2 ^ o) (2 ^ o)
unfolding mark
marked v ws o j b = go (ltb o 6) refl
  where
    go : (t : Bool) → ltb o 6 ≡ t → Marked v ws (mark v ws o j) (j * 2 ^ o) (2 ^ o)
    go true e =
        let g : o < 6 = ltb-true o 6 e in
        let i : j * 2 ^ o + 2 ^ o ≤ length ws * 64 = b.inside in
        let p : 0 < 2 ^ o = pow_pos o in
        let d : j * 2 ^ o / 64 * 64 + j * 2 ^ o % 64 ≡ j * 2 ^ o = omega arith in
        simp e (rw d at (marked-part v ws (j * 2 ^ o / 64) (j * 2 ^ o % 64) (2 ^ o) (in-word o j g) (omega arith)))
    go false e =
        let w = whole o j (ltb-false o 6 e) in
        let i : j * 2 ^ o + 2 ^ o ≤ length ws * 64 = b.inside in
        let r : Marked v ws (set_words ws (j * 2 ^ o / 64) (2 ^ o / 64) (full v 64)) (j * 2 ^ o / 64 * 64) (2 ^ o / 64 * 64) =
        marked-words v ws (j * 2 ^ o / 64) (2 ^ o / 64) (omega (arith, w.start, w.words)) in
        simp e (rw (w.start, w.words) at r)

split3 : (f : ℕ → ℕ) (b x n y a k : ℕ) → k ≡ x + n + y → b + x ≡ a → sum f b k ≡ sum f b x + sum f a n + sum f (a + n) y
split3 f b x n y a k q r =
    let e : b + (x + n) ≡ a + n = omega arith in
    rw q (sum-add f b (x + n) y ∙ ap₂ (λ (z u : ℕ). z + u) (sum-add f b x n ∙ ap (λ (z : ℕ). sum f b x + sum f z n) r) (ap (λ (z : ℕ). sum f z y) e))

-- and of counts of frames
module _ (v : Bool) (ws ws' : List ℕ) (a n : ℕ) (m : Marked v ws ws' a n) where
  pub count-below : (b k : ℕ) → b + k ≤ a → held ws' b k ≡ held ws b k
  unfolding held
  count-below b k h = sum-ext (bit ws') (bit ws) b k (λ i l u. m.below i (omega arith))

  pub count-above : (b k : ℕ) → a + n ≤ b → held ws' b k ≡ held ws b k
  unfolding held
  count-above b k h = sum-ext (bit ws') (bit ws) b k (λ i l u. m.above i (omega arith))

  -- of a range that has the block in it
  pub count-around : (b k : ℕ) → b ≤ a → a + n ≤ b + k → held ws' b k + held ws a n ≡ held ws b k + held ws' a n
  unfolding held
  count-around b k h l =
      let d = le_dest h in
      let e = le_dest l in
      let x : ℕ = d.0 in
      let y : ℕ = e.0 in
      let t : (us : List ℕ) → held us b k ≡ held us b x + held us a n + held us (a + n) y = (λ us. split3 (bit us) b x n y a k (omega arith) (omega arith)) in
      omega (arith, t ws, t ws', count-below b x (omega arith), count-above (a + n) y (omega arith))

pub count_held : (ws ws' : List ℕ) (a n : ℕ) → Marked true ws ws' a n → held ws' a n ≡ n
unfolding held
count_held ws ws' a n m = sum-all (bit ws') a n m.inside

pub count-free : (ws ws' : List ℕ) (a n : ℕ) → Marked false ws ws' a n → held ws' a n ≡ 0
unfolding held
count-free ws ws' a n m = sum-zero (bit ws') a n m.inside

pub set_more : (ws us : List ℕ) (at i x : ℕ) → us ≡ set_words ws at i x → set us (at + i) x ≡ set_words ws at (i + 1) x
set_more ws us at i x e = rw (add-one i) (ap (λ (l : List ℕ). set l (at + i) x) e)
