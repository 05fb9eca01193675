-- Held frames counted by words: bit i of word w is frame 64 w + i. Assumes nothing.
use Rattle.std.specs.Prelude.{◌≡◌, refl, List, ℕ, zero, suc, ◌+◌, ◌*◌, ◌/◌, ◌%◌, ◌^◌, ◌<◌, ◌≤◌, get_or}
use Rattle.std.proofs.Common.{sym, ap, ap₂, ◌∙◌, mod-lt, one-add, arith, shr-shr, pow_pos}
use Rattle.std.specs.Int.Count.{ones}
use Rattle.std.proofs.lemmas.Nat.{ones_cat, mod-pow-add}
use Rattle.law_rules.specs.Power.{in-word, whole}
use Rattle.rules.specs.Base.{sum}
use Rattle.rules.specs.Lower.{bit_at, bit, held, held_in}
use Rattle.law_rules.specs.Sum.{sum-add, sum-shift, sum-ext, sum-le}

pub bit_le : (ws : List ℕ) (f : ℕ) → bit ws f ≤ 1
bit_le ws f = omega arith

ones_bit : (n : ℕ) → n < 2 → ones n ≡ n
unfolding ones
ones_bit zero h = refl
ones_bit (suc zero) h = refl
ones_bit (suc (suc n)) h = absurd (omega arith)

pub bits-ones : (w s n : ℕ) → sum (bit_at w) s n ≡ ones (w / 2 ^ s % 2 ^ n)
unfolding sum ones
bits-ones w s zero = let e : w / 2 ^ s % 1 ≡ 0 = omega arith in sym (ap ones e)
bits-ones w s (suc n) =
    let x : ℕ = w / 2 ^ s in
    let b : ℕ = x / 2 ^ n % 2 in
    let e : ones (x % 2 ^ suc n) ≡ ones b + ones (x % 2 ^ n) =
    ap (λ (k : ℕ). ones (x % 2 ^ k)) (sym (one-add n)) ∙ ap ones (mod-pow-add x 1 n) ∙ ones_cat n b (x % 2 ^ n) (mod-lt x (pow_pos n)) in
    let d : b ≡ bit_at w (s + n) = ap (λ (k : ℕ). k % 2) (shr-shr w s n) in
    omega (arith, bits-ones w s n, e, d, ones_bit b (omega arith))

-- the n frames from frame s of a word are its bits
pub held-bits : (ws : List ℕ) (q s n : ℕ) → s + n ≤ 64 → held ws (q * 64 + s) n ≡ sum (bit_at (get_or ws q 0)) s n
unfolding held
held-bits ws q s n h =
    sum-shift (bit ws) (q * 64) s n
    ∙ sum-ext (λ i. bit ws (q * 64 + i)) (bit_at (get_or ws q 0)) s n (λ i l m.
    let a : (q * 64 + i) / 64 ≡ q = omega arith in
    let b : (q * 64 + i) % 64 ≡ i = omega arith in
    simp (a, b))

-- within a word
pub held_word : (ws : List ℕ) (q s n : ℕ) → s + n ≤ 64 → held ws (q * 64 + s) n ≡ ones (get_or ws q 0 / 2 ^ s % 2 ^ n)
held_word ws q s n h = held-bits ws q s n h ∙ bits-ones (get_or ws q 0) s n

-- a whole word
pub held_whole : (ws : List ℕ) (q : ℕ) → get_or ws q 0 < 2 ^ 64 → held ws (q * 64) 64 ≡ ones (get_or ws q 0)
held_whole ws q h =
    let a : q * 64 ≡ q * 64 + 0 = omega arith in
    let b : get_or ws q 0 / 2 ^ 0 % 2 ^ 64 ≡ get_or ws q 0 = omega arith in
    ap (λ (x : ℕ). held ws x 64) a ∙ held_word ws q 0 64 (omega arith) ∙ ap ones b

-- and one word more
pub held_more : (ws : List ℕ) (at i : ℕ) → get_or ws (at + i) 0 < 2 ^ 64
    → held ws (at * 64) (i * 64) + ones (get_or ws (at + i) 0) ≡ held ws (at * 64) ((i + 1) * 64)
unfolding held
held_more ws at i h =
    let a : (i + 1) * 64 ≡ i * 64 + 64 = omega arith in
    let b : at * 64 + i * 64 ≡ (at + i) * 64 = omega arith in
    let e : held ws (at * 64 + i * 64) 64 ≡ ones (get_or ws (at + i) 0) = rw b (held_whole ws (at + i) h) in
    rw a (omega (arith, e, sum-add (bit ws) (at * 64) (i * 64) 64))

-- a range in two parts
pub held-add : (ws : List ℕ) (a m n : ℕ) → held ws a (m + n) ≡ held ws a m + held ws (a + m) n
unfolding held
held-add ws a m n = sum-add (bit ws) a m n

-- no more than there are
pub held-le : (ws : List ℕ) (a n : ℕ) → held ws a n ≤ n
unfolding held
held-le ws a n = sum-le (bit ws) a n (bit_le ws)

-- a block of a small order, as bits of its word
pub held-part : (ws : List ℕ) (o j : ℕ) → o < 6 → held_in ws o j ≡ ones (get_or ws (j * 2 ^ o / 64) 0 / 2 ^ (j * 2 ^ o % 64) % 2 ^ 2 ^ o)
unfolding held_in
held-part ws o j h =
    let b : ℕ = j * 2 ^ o in
    let e : b / 64 * 64 + b % 64 ≡ b = omega arith in
    ap (λ (x : ℕ). held ws x (2 ^ o)) (sym e) ∙ held_word ws (b / 64) (b % 64) (2 ^ o) (in-word o j h)

-- and of a large one, as words
pub held-large : (ws : List ℕ) (o j : ℕ) → 6 ≤ o → held_in ws o j ≡ held ws (j * 2 ^ o / 64 * 64) (2 ^ o / 64 * 64)
unfolding held_in
held-large ws o j g = ap₂ (λ (x y : ℕ). held ws x y) (sym (whole o j g).start) (sym (whole o j g).words)
