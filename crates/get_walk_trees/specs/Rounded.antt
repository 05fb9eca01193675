-- The start rounded down, by trying the powers of two in turn. Assumes nothing.
use Rattle.std.specs.Prelude.{◌≡◌, false, ℕ, ◌+◌, ◌*◌, ◌/◌, ◌%◌, ◌^◌, ◌<◌, ◌≤◌, leb}
use Rattle.std.proofs.Common.{⊎_elim, arith, mod-eq_of_lt, div-mul-le_self, eq-or-lt_of_le, le-leb}
use Rattle.std.proofs.lemmas.Bool.{lt-leb}
use Rattle.law_rules.specs.First.{first-at, first-none}
use Rattle.rules_calls.specs.Search.{near, round_down, rounded_start}

-- the powers below 2^e are below 2 × near
unfoldable pub Passed : ℕ → ℕ → Type 0
Passed n e = (i : ℕ) → i < e → leb (2 * near n) (2 ^ i) ≡ false

pub passed_none : (n : ℕ) → Passed n 0
unfolding Passed
passed_none n i h = absurd (omega arith)

pub passed-more : (n e : ℕ) → Passed n e → 2 ^ e < 2 * near n → Passed n (e + 1)
unfolding Passed
passed-more n e p h i l =
    let b : i ≤ e = omega arith in
    ⊎_elim (λ q. rw q (lt-leb (2 * near n) (2 ^ e) h)) (λ q. p i q) (eq-or-lt_of_le b)

-- a shift down and up again loses no bit that was left
pub shifted : (start e : ℕ) → start < 2 ^ 44 → (start / 2 ^ e * 2 ^ e) % 2 ^ 64 ≡ start / 2 ^ e * 2 ^ e
shifted start e h =
    let b : start / 2 ^ e * 2 ^ e ≤ start = div-mul-le_self start (2 ^ e) in
    let l : start / 2 ^ e * 2 ^ e < 2 ^ 64 = omega arith in
    mod-eq_of_lt l

pub round-at : (n start e : ℕ) → e < 8 → Passed n e → 2 * near n ≤ 2 ^ e → start / 2 ^ e * 2 ^ e ≡ rounded_start n start
unfolding rounded_start round_down Passed
round-at n start e l p h =
    let f = first-at (λ (i : ℕ). leb (2 * near n) (2 ^ i)) 0 8 e (omega arith) (omega arith) (λ i a b. p i b) (le-leb (2 * near n) (2 ^ e) h) in
    rw f

pub round-none : (n start : ℕ) → Passed n 8 → 0 ≡ rounded_start n start
unfolding rounded_start round_down Passed
round-none n start p =
    let f = first-none (λ (i : ℕ). leb (2 * near n) (2 ^ i)) 0 8 (λ i a b. p i (omega arith)) in
    rw f
