-- The n bits of w from bit s on, put anew. Assumes nothing.
use Rattle.std.specs.Prelude.{◌≡◌, ℕ, zero, suc, ◌+◌, ◌-◌, ◌*◌, ◌/◌, ◌%◌, ◌^◌, ◌<◌, ◌≤◌}
use Rattle.std.proofs.Common.{sym, ap, ◌∙◌, add_assoc, add-mul, mod-lt, mod-eq_of_lt, not-suc-le-zero, le_of_suc-le-suc, zero-add, one-add, arith, shl_exact, shr-shr, shr_lt, pow_pos, pow-add}
use Rattle.std.proofs.Math.Nat.{le_dest, zero-div}
use Rattle.std.proofs.Math.Arith.{digits_lt}
use Rattle.std.specs.Int.Bits.{block_half, block_odd}
use Rattle.std.specs.Int.Count.{ones, ones-ones}
use Rattle.std.proofs.Math.Pow.{high, split, ones_lt}
use Rattle.law_rules.specs.Power.{one_shl}
use Rattle.rules.specs.Lower.{bit_at, put_field}
use Rattle.law_rules.specs.Sum.{one_at}
use Rattle.law_rules.specs.Held.{bits-ones}

pub bit-suc : (x i : ℕ) → bit_at x (suc i) ≡ bit_at (x / 2) i
bit-suc x i = ap (λ (k : ℕ). x / 2 ^ k % 2) (sym (one-add i)) ∙ ap (λ (k : ℕ). k % 2) (sym (shr-shr x 1 i))

pub bit-zero : (x : ℕ) → bit_at x 0 ≡ x % 2
bit-zero x = let e : x / 1 ≡ x = omega arith in ap (λ (k : ℕ). k % 2) e

pub bit-low : (A s lo i : ℕ) → i < s → bit_at (A * 2 ^ s + lo) i ≡ bit_at lo i
bit-low A zero lo i h = absurd (not-suc-le-zero h)
bit-low A (suc s) lo zero h = bit-zero (A * 2 ^ suc s + lo) ∙ block_odd A s lo ∙ sym (bit-zero lo)
bit-low A (suc s) lo (suc i) h =
    bit-suc (A * 2 ^ suc s + lo) i ∙ ap (λ (x : ℕ). bit_at x i) (block_half A s lo) ∙ bit-low A s (lo / 2) i (le_of_suc-le-suc h) ∙ sym (bit-suc lo i)

pub bit_high : (A s lo k : ℕ) → lo < 2 ^ s → bit_at (A * 2 ^ s + lo) (s + k) ≡ bit_at A k
bit_high A s lo k h = ap (λ (x : ℕ). x % 2) (sym (shr-shr (A * 2 ^ s + lo) s k) ∙ ap (λ (x : ℕ). x / 2 ^ k) (high A s h))

pub bit-mod : (w s i : ℕ) → i < s → bit_at (w % 2 ^ s) i ≡ bit_at w i
bit-mod w s i h = sym (bit-low (w / 2 ^ s) s (w % 2 ^ s) i h) ∙ ap (λ (x : ℕ). bit_at x i) (split w s)

pub bit-every : (n k : ℕ) → k < n → bit_at (2 ^ n - 1) k ≡ 1
bit-every n k h =
    let e : (2 ^ n - 1) / 2 ^ 0 % 2 ^ n ≡ 2 ^ n - 1 =
    (let d : (2 ^ n - 1) / 1 ≡ 2 ^ n - 1 = omega arith in ap (λ (x : ℕ). x % 2 ^ n) d ∙ mod-eq_of_lt (ones_lt n)) in
    one_at (bit_at (2 ^ n - 1)) 0 n (λ i. omega arith) (bits-ones (2 ^ n - 1) 0 n ∙ ap ones e ∙ ones-ones n) k (omega arith) (omega arith)

pub bit-none : (k : ℕ) → bit_at 0 k ≡ 0
bit-none k = ap (λ (x : ℕ). x % 2) (zero-div (2 ^ k))

module _ (w s n f : ℕ) (fits : f < 2 ^ n) where
  lo-lt : w % 2 ^ s < 2 ^ s
  lo-lt = mod-lt w (pow_pos s)

  -- below, in and above the field
  pub put-below : (i : ℕ) → i < s → bit_at (put_field w s n f) i ≡ bit_at w i
  put-below i h = bit-low (w / 2 ^ (s + n) * 2 ^ n + f) s (w % 2 ^ s) i h ∙ bit-mod w s i h

  pub put_in : (k : ℕ) → k < n → bit_at (put_field w s n f) (s + k) ≡ bit_at f k
  put_in k h = bit_high (w / 2 ^ (s + n) * 2 ^ n + f) s (w % 2 ^ s) k lo-lt ∙ bit-low (w / 2 ^ (s + n)) n f k h

  pub put-above : (k : ℕ) → bit_at (put_field w s n f) (s + (n + k)) ≡ bit_at w (s + (n + k))
  put-above k =
      bit_high (w / 2 ^ (s + n) * 2 ^ n + f) s (w % 2 ^ s) (n + k) lo-lt
      ∙ bit_high (w / 2 ^ (s + n)) n f k fits
      ∙ ap (λ (x : ℕ). x % 2) (shr-shr w (s + n) k)
      ∙ ap (λ (x : ℕ). w / 2 ^ x % 2) (add_assoc s n k)

  pub put-lt : (m : ℕ) → s + n ≤ m → w < 2 ^ m → put_field w s n f < 2 ^ m
  put-lt m h l =
      let d = le_dest h in
      let k : ℕ = d.0 in
      let a : m ≡ k + (s + n) = omega arith in
      let b : k + n + s ≡ m = omega arith in
      let t : w < 2 ^ (k + (s + n)) = rw a at l in
      let p : put_field w s n f < 2 ^ k * 2 ^ n * 2 ^ s = digits_lt (digits_lt (shr_lt k (s + n) t) fits) lo-lt in
      let e : 2 ^ k * 2 ^ n * 2 ^ s ≡ 2 ^ m = ap (λ (x : ℕ). x * 2 ^ s) (sym (pow-add 2 k n)) ∙ sym (pow-add 2 (k + n) s) ∙ ap (λ (x : ℕ). 2 ^ x) b in
      rw e at p

-- a word is its own field put anew
pub put_same : (w s n : ℕ) → put_field w s n (w / 2 ^ s % 2 ^ n) ≡ w
put_same w s n =
    ap (λ (x : ℕ). (x * 2 ^ n + w / 2 ^ s % 2 ^ n) * 2 ^ s + w % 2 ^ s) (sym (shr-shr w s n))
    ∙ ap (λ (x : ℕ). x * 2 ^ s + w % 2 ^ s) (split (w / 2 ^ s) n)
    ∙ split w s

-- and two fields differ by their difference
pub put-add : (w s n f g : ℕ) → put_field w s n (f + g) ≡ put_field w s n f + g * 2 ^ s
put-add w s n f g =
    let a : ℕ = w / 2 ^ (s + n) * 2 ^ n in
    let e : (a + (f + g)) * 2 ^ s ≡ (a + f) * 2 ^ s + g * 2 ^ s = ap (λ (x : ℕ). x * 2 ^ s) (sym (add_assoc a f g)) ∙ add-mul (a + f) g (2 ^ s) in
    omega (arith, e)

-- the code's sums: a field of zeros filled, a field of ones emptied
pub mask : (s n : ℕ) → n < 64 → s + n ≤ 64 → ((1 * 2 ^ n) % 2 ^ 64 - 1) * 2 ^ s % 2 ^ 64 ≡ (2 ^ n - 1) * 2 ^ s
mask s n l h = rw (one_shl n l) (shl_exact n s 64 (ones_lt n) (omega arith))

pub fill-sum : (w s n : ℕ) → w / 2 ^ s % 2 ^ n ≡ 0 → w + (2 ^ n - 1) * 2 ^ s ≡ put_field w s n (2 ^ n - 1)
fill-sum w s n e =
    let a : put_field w s n 0 ≡ w = ap (put_field w s n) (sym e) ∙ put_same w s n in
    let b : put_field w s n (0 + (2 ^ n - 1)) ≡ put_field w s n 0 + (2 ^ n - 1) * 2 ^ s = put-add w s n 0 (2 ^ n - 1) in
    let z : 0 + (2 ^ n - 1) ≡ 2 ^ n - 1 = zero-add _ in
    let t : put_field w s n (2 ^ n - 1) ≡ put_field w s n 0 + (2 ^ n - 1) * 2 ^ s = rw z at b in
    omega (arith, a, t)

pub empty-sum : (w s n : ℕ) → w / 2 ^ s % 2 ^ n ≡ 2 ^ n - 1 → w ≡ put_field w s n 0 + (2 ^ n - 1) * 2 ^ s
empty-sum w s n e =
    let a : put_field w s n (2 ^ n - 1) ≡ w = ap (put_field w s n) (sym e) ∙ put_same w s n in
    let b : put_field w s n (0 + (2 ^ n - 1)) ≡ put_field w s n 0 + (2 ^ n - 1) * 2 ^ s = put-add w s n 0 (2 ^ n - 1) in
    let z : 0 + (2 ^ n - 1) ≡ 2 ^ n - 1 = zero-add _ in
    let t : put_field w s n (2 ^ n - 1) ≡ put_field w s n 0 + (2 ^ n - 1) * 2 ^ s = rw z at b in
    omega (arith, a, t)
