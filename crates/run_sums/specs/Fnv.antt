-- FNV-1a, 64 bit, over words taken as their bytes, lowest first. Assumes nothing.
use Rattle.std.specs.Prelude.{◌≡◌, refl, ℕ, zero, suc, ◌+◌, ◌-◌, ◌*◌, ◌/◌, ◌%◌, ◌^◌, ◌<◌, ◌≤◌, List, [], ◌∷◌, length, drop, bit_xor, slice_index}
use Rattle.std.proofs.Common.{sym, ap, ◌∙◌, not-suc-le-zero, arith, add-one, drop_of_length-le, drop-cons}

-- the sum of no bytes
abbrev pub basis : ℕ
basis = 14695981039346656037

-- one byte more
unfoldable pub fnv_byte : ℕ → ℕ → ℕ
fnv_byte h b = bit_xor h b * 1099511628211 % 2 ^ 64

-- a word of n bytes more
unfoldable pub fnv_word : ℕ → ℕ → ℕ → ℕ
fnv_word zero h w = h
fnv_word (suc n) h w = fnv_word n (fnv_byte h (w % 256)) (w / 256)

-- words of n bytes each
unfoldable pub fnv_from : ℕ → ℕ → List ℕ → ℕ
fnv_from n h [] = h
fnv_from n h (w ∷ ws) = fnv_from n (fnv_word n h w) ws

-- a turn of each loop
pub word-step : (k h w : ℕ) → 0 < k → fnv_word k h w ≡ fnv_word (k - 1) (fnv_byte h (w % 256)) (w / 256)
unfolding fnv_word
word-step zero h w p = absurd (not-suc-le-zero p)
word-step (suc k) h w p =
    let e : k ≡ suc k - 1 = omega arith in
    ap (λ (j : ℕ). fnv_word j (fnv_byte h (w % 256)) (w / 256)) e

pub from_step : (n h : ℕ) (ws : List ℕ) (i : ℕ) → i < length ws
    → fnv_from n h (drop i ws) ≡ fnv_from n (fnv_word n h (slice_index ws i)) (drop (i + 1) ws)
unfolding fnv_from
from_step n h ws i l =
    ap (fnv_from n h) (drop-cons ws i 0 l)
    ∙ ap (λ (k : ℕ). fnv_from n (fnv_word n h (slice_index ws i)) (drop k ws)) (sym (add-one i))

pub from_end : (n h : ℕ) (ws : List ℕ) (i : ℕ) → length ws ≤ i → fnv_from n h (drop i ws) ≡ h
unfolding fnv_from
from_end n h ws i l = ap (fnv_from n h) (drop_of_length-le ws l)

-- what a word's kind says of sums: with no word more, and with one more before others
pub record Sums {W : Type 0} (with : ℕ → W → ℕ) (from : ℕ → List W → ℕ) : Type 0 where
  pub none : (h : ℕ) → from h [] ≡ h
  pub more : (h : ℕ) (w : W) (ws : List W) → from h (w ∷ ws) ≡ from (with h w) ws

pub sums : (n : ℕ) → Sums (fnv_word n) (fnv_from n)
unfolding fnv_from
sums n = record { none = λ h. refl; more = λ h w ws. refl }
