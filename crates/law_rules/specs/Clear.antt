-- The clear bits of a tree: what is not held; and what a block held or released does to them. Assumes nothing.
use Rattle.std.specs.Prelude.{◌≡◌, refl, Bool, List, ℕ, zero, suc, ◌+◌, ◌-◌, ◌*◌, ◌/◌, ◌%◌, ◌^◌, ◌≤◌, get_or}
use Rattle.std.proofs.Common.{sym, ap, ap₂, ◌∙◌, mul_assoc, mul-le-mul_right, add-mul, arith}
use Rattle.std.proofs.Math.Bool.{true, false}
use Rattle.rules.specs.Base.{sum}
use Rattle.rules.specs.Words.{tree_frames}
use Rattle.rules.specs.Lower.{bit_at, held, held_in, clear_bits, clear, mark}
use Rattle.law_rules.specs.Cases.{by_side}
use Rattle.law_rules.specs.Power.{tree-words, Inside}
use Rattle.law_rules.specs.Sum.{sum_one, sum-add, sum-ext, sum-shift}
use Rattle.law_rules.specs.Block.{Block}
use Rattle.law_rules.specs.Held.{held-bits, held-add}
use Rattle.law_rules.specs.Run.{run_none}
use Rattle.law_rules.specs.Field.{bit-zero, bit-suc}
use Rattle.law_rules.specs.Mark.{Marked, marked, count-below, count-above, count-around, count_held, count-free}

-- the lowest d bits of a word: clear ones and set ones
word-bits : (d w : ℕ) → clear_bits d w + sum (bit_at w) 0 d ≡ d
unfolding clear_bits sum
word-bits zero w = refl
word-bits (suc d) w =
    let i : clear_bits d (w / 2) + sum (bit_at (w / 2)) 0 d ≡ d = word-bits d (w / 2) in
    let a : sum (bit_at w) 0 (1 + d) ≡ sum (bit_at w) 0 1 + sum (bit_at w) 1 d = sum-add (bit_at w) 0 1 d in
    let o : 1 + d ≡ suc d = omega arith in
    let a' : sum (bit_at w) 0 (suc d) ≡ sum (bit_at w) 0 1 + sum (bit_at w) 1 d = ap (sum (bit_at w) 0) (sym o) ∙ a in
    let b : sum (bit_at w) 0 1 ≡ w % 2 = sum_one (bit_at w) 0 ∙ bit-zero w in
    let s : sum (bit_at w) 1 d ≡ sum (λ k. bit_at w (1 + k)) 0 d = sum-shift (bit_at w) 1 0 d in
    let e : sum (λ k. bit_at w (1 + k)) 0 d ≡ sum (bit_at (w / 2)) 0 d =
    sum-ext (λ k. bit_at w (1 + k)) (bit_at (w / 2)) 0 d (λ k l m. let q : 1 + k ≡ suc k = omega arith in ap (bit_at w) q ∙ bit-suc w k) in
    omega (arith, a', b, s, e, i)

word_held : (ws : List ℕ) (q : ℕ) → clear_bits 64 (get_or ws q 0) + held ws (q * 64) 64 ≡ 64
word_held ws q =
    let a : q * 64 + 0 ≡ q * 64 = omega arith in
    let e : held ws (q * 64 + 0) 64 ≡ sum (bit_at (get_or ws q 0)) 0 64 = held-bits ws q 0 64 (omega arith) in
    let f : held ws (q * 64) 64 ≡ sum (bit_at (get_or ws q 0)) 0 64 = rw a at e in
    omega (arith, word-bits 64 (get_or ws q 0))

-- n words from a
words-held : (ws : List ℕ) (a n : ℕ) → sum (λ q. clear_bits 64 (get_or ws q 0)) a n + held ws (a * 64) (n * 64) ≡ n * 64
unfolding sum
words-held ws a zero = omega (arith, run_none ws (a * 64))
words-held ws a (suc n) =
    let e : suc n * 64 ≡ n * 64 + 64 = omega arith in
    let p : a * 64 + n * 64 ≡ (a + n) * 64 = omega arith in
    let h : held ws (a * 64) (suc n * 64) ≡ held ws (a * 64) (n * 64) + held ws ((a + n) * 64) 64 =
    ap (held ws (a * 64)) e ∙ held-add ws (a * 64) (n * 64) 64 ∙ ap (λ (x : ℕ). held ws (a * 64) (n * 64) + held ws x 64) p in
    omega (arith, h, words-held ws a n, word_held ws (a + n))

-- the clear bits of a tree are those that are not held
pub clear-held : (z : ℕ) (ws : List ℕ) (t : ℕ) → 6 ≤ z → clear z ws t + held ws (t * tree_frames z) (tree_frames z) ≡ tree_frames z
unfolding clear
clear-held z ws t h =
    let p : 2 ^ z ≡ 2 ^ (z - 6) * 64 = tree-words z h in
    let q : t * 2 ^ z ≡ t * 2 ^ (z - 6) * 64 = ap (λ (x : ℕ). t * x) p ∙ sym (mul_assoc t (2 ^ (z - 6)) 64) in
    let e : held ws (t * 2 ^ z) (2 ^ z) ≡ held ws (t * 2 ^ (z - 6) * 64) (2 ^ (z - 6) * 64) = ap₂ (held ws) q p in
    omega (arith, words-held ws (t * 2 ^ (z - 6)) (2 ^ (z - 6)), e)

-- two bitmaps with as many frames held in a tree
pub clear-same : (z : ℕ) (ws us : List ℕ) (t : ℕ) → 6 ≤ z → held us (t * tree_frames z) (tree_frames z) ≡ held ws (t * tree_frames z) (tree_frames z) → clear z us t ≡ clear z ws t
clear-same z ws us t h e = omega (arith, clear-held z ws t h, clear-held z us t h)

module _ (z : ℕ) (ws : List ℕ) (o j t : ℕ) (h : 6 ≤ z) (b : Block ws o j) where
  -- a block of the tree
  module _ (n : Inside z o t j) where
    -- a wholly free one that is taken
    pub clear-take : held_in ws o j ≡ 0 → clear z (mark true ws o j) t + 2 ^ o ≡ clear z ws t
    unfolding held_in
    clear-take e =
        let m : Marked true ws (mark true ws o j) (j * 2 ^ o) (2 ^ o) = marked true ws o j b in
        omega (arith, count-around true ws _ _ _ m (t * tree_frames z) (tree_frames z) n.low n.high, count_held ws _ _ _ m, clear-held z ws t h, clear-held z (mark true ws o j) t h)

    -- a wholly held one that is given back
    pub clear-give : held_in ws o j ≡ 2 ^ o → clear z (mark false ws o j) t ≡ clear z ws t + 2 ^ o
    unfolding held_in
    clear-give e =
        let m : Marked false ws (mark false ws o j) (j * 2 ^ o) (2 ^ o) = marked false ws o j b in
        omega (arith, count-around false ws _ _ _ m (t * tree_frames z) (tree_frames z) n.low n.high, count-free ws _ _ _ m, clear-held z ws t h, clear-held z (mark false ws o j) t h)

  -- a block of the tree u changes no other tree
  pub clear-other : (v : Bool) (u : ℕ) → Inside z o u j → (t ≡ u → ⊥) → clear z (mark v ws o j) t ≡ clear z ws t
  clear-other v u n ne = clear-same z ws (mark v ws o j) t h (by_side t u ne
      (λ l.
      let a : suc t * 2 ^ z ≤ u * 2 ^ z = mul-le-mul_right (2 ^ z) l in
      let c : suc t * 2 ^ z ≡ t * 2 ^ z + 2 ^ z = next t in
      count-below v ws _ _ _ (marked v ws o j b) (t * 2 ^ z) (2 ^ z) (omega (arith, n.low)))
      (λ l.
      let a : suc u * 2 ^ z ≤ t * 2 ^ z = mul-le-mul_right (2 ^ z) l in
      let c : suc u * 2 ^ z ≡ u * 2 ^ z + 2 ^ z = next u in
      count-above v ws _ _ _ (marked v ws o j b) (t * 2 ^ z) (2 ^ z) (omega (arith, n.high))))
    where
      next : (x : ℕ) → suc x * 2 ^ z ≡ x * 2 ^ z + 2 ^ z
      next x = let s : suc x ≡ x + 1 = omega arith in ap (λ (y : ℕ). y * 2 ^ z) s ∙ add-mul x 1 (2 ^ z) ∙ omega arith
