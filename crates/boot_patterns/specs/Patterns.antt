-- The boot patterns: their frames, and that the blocks of n frames, which are the binary digits of n, have n frames together. Assumes nothing.
use Rattle.std.specs.Prelude.{◌≡◌, true, false, ℕ, zero, suc, ◌+◌, ◌-◌, ◌*◌, ◌/◌, ◌%◌, ◌^◌, ◌≤◌, ◌<◌, eqb}
use Rattle.std.proofs.Common.{ap, ◌∙◌, arith, pow-suc, mul_assoc, mul_comm, add-mul, div-mul-le_self, add-one, shr-shr, eqb-true}
use Rattle.std.proofs.lemmas.Bool.{eqb-false}
use Rattle.boot_patterns.specs.declared.Pattern.{Pattern}
use Rattle.boot_patterns.specs.declared.Pattern.TheVariants.{Raster, FirstOverlay, SecondOverlay}

-- the frames of a pattern: 2,048 × 1,080 pixels of 6 bytes are 3,240 frames of 4 KiB, of 1 byte 540
abbrev pub frames_of : Pattern → ℕ
frames_of Raster = 3240
frames_of FirstOverlay = 540
frames_of SecondOverlay = 540

-- no pattern has a block above order 11
pub frames-few : (p : Pattern) → frames_of p < 4096
frames-few Raster = omega arith
frames-few FirstOverlay = omega arith
frames-few SecondOverlay = omega arith

-- the frames of the blocks of orders from o on
abbrev pub above : ℕ → ℕ → ℕ
above n o = n / 2 ^ o * 2 ^ o

pub above-all : (n : ℕ) → n < 4096 → above n 12 ≡ 0
above-all n h = let q : n / 4096 ≡ 0 = omega arith in rw q

pub above_zero : (n : ℕ) → above n 0 ≡ n
above_zero n = omega arith

pub above-le : (n o : ℕ) → above n o ≤ n
above-le n o = div-mul-le_self n (2 ^ o)

-- a number q in terms of its half
half-odd : (q m : ℕ) → q % 2 ≡ 1 → q / 2 * (2 * m) + m ≡ q * m
half-odd q m h =
    let e : q / 2 * 2 + 1 ≡ q = omega arith in
    let d : (q / 2 * 2 + 1) * m ≡ q / 2 * 2 * m + 1 * m = add-mul (q / 2 * 2) 1 m in
    let a : q / 2 * 2 * m ≡ q / 2 * (2 * m) = mul_assoc (q / 2) 2 m in
    let f : (q / 2 * 2 + 1) * m ≡ q * m = ap (λ (x : ℕ). x * m) e in
    omega arith

half-even : (q m : ℕ) → (q % 2 ≡ 1 → ⊥) → q / 2 * (2 * m) ≡ q * m
half-even q m h =
    let e : q / 2 * 2 ≡ q = omega arith in
    let a : q / 2 * 2 * m ≡ q / 2 * (2 * m) = mul_assoc (q / 2) 2 m in
    let f : q / 2 * 2 * m ≡ q * m = ap (λ (x : ℕ). x * m) e in
    omega arith

above_half : (n o : ℕ) → above n (suc o) ≡ n / 2 ^ o / 2 * (2 * 2 ^ o)
above_half n o =
    let p : 2 ^ suc o ≡ 2 * 2 ^ o = pow-suc 2 o ∙ mul_comm (2 ^ o) 2 in
    let q : n / 2 ^ o / 2 ≡ n / 2 ^ suc o = shr-shr n o 1 ∙ ap (λ (k : ℕ). n / 2 ^ k) (add-one o) in
    rw (q, p)

-- the block below order o, of order o - 1, is the digit o - 1
pub above-digit : (n o : ℕ) → 0 < o → eqb (n / 2 ^ (o - 1) % 2) 1 ≡ true → above n o + 2 ^ (o - 1) ≡ above n (o - 1)
above-digit n zero lt h = omega arith
above-digit n (suc o) lt h =
    let e : suc o - 1 ≡ o = omega arith in
    rw (above_half n o, e) (half-odd (n / 2 ^ o) (2 ^ o) (eqb-true _ _ (rw e at h)))

pub above-none : (n o : ℕ) → 0 < o → eqb (n / 2 ^ (o - 1) % 2) 1 ≡ false → above n o ≡ above n (o - 1)
above-none n zero lt h = omega arith
above-none n (suc o) lt h =
    let e : suc o - 1 ≡ o = omega arith in
    rw (above_half n o, e) (half-even (n / 2 ^ o) (2 ^ o) (eqb-false _ _ (rw e at h)))
