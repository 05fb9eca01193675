-- The lowest clear bit of a word, as many zeros as all ones less the word has at its low end; and the first free block of a word, where it holds that bit. Assumes nothing.
use Rattle.std.specs.Prelude.{◌≡◌, refl, false, eqb}
use Rattle.std.proofs.Math.Path.{sym}
use Rattle.std.proofs.Common.{ap, ◌∙◌, pow-suc, div-one, div-mul-le_self, div-lt_iff_lt-mul, arith, shr-shr, pow_pos}
use Rattle.std.proofs.Math.Bool.{true}
use Prim.Native.Nat.{ℕ, zero, suc, zero-le, ◌+◌, ◌-◌, ◌*◌, ◌/◌, ◌%◌, ◌^◌, ◌<◌, ◌≤◌}
use Rattle.std.proofs.Math.Nat.{suc-mul, zero-mul, mul-le-mul_right}
use Rattle.std.proofs.Math.Dec.{leb}
use Rattle.std.specs.Int.Count.{count_trailing_zeros, under, trailing_le}
use Rattle.std.proofs.Math.Pow.{mod-mod-pow}
use borrow.Author.Tests.{ne_eqb, le-leb}
use Rattle.rules.specs.Lower.{held_in, hit}
use Rattle.law_rules.specs.Block.{Block}
use Rattle.law_rules.specs.First.{first-at}
use Rattle.law_rules.specs.Power.{pow-part}
use Rattle.law_rules.specs.Seek.{seek_in}
use Rattle.law_rules.specs.WordSeek.{word, found_or, word_seek, word-free}

-- the lowest clear bit of a w of k bits; k where all are set
unfoldable pub lowest_clear : ℕ → ℕ → ℕ
lowest_clear k w = count_trailing_zeros k (2 ^ k - 1 - w)

-- one bit further up is one bit of the half
next_bit : (w i : ℕ) → w / 2 ^ suc i % 2 ≡ w / 2 / 2 ^ i % 2
next_bit w i = let e : 1 + i ≡ suc i = omega arith in rw e at (ap (λ (x : ℕ). x % 2) (sym (shr-shr w 1 i)))

-- the lowest bit
low_bit : (w : ℕ) → w / 2 ^ 0 % 2 ≡ w % 2
low_bit w = ap (λ (x : ℕ). x % 2) (div-one w)

-- what is below it is set, and it is clear
pub record Lowest (k w t : ℕ) : Type 0 where
  pub below : (i : ℕ) → i < t → w / 2 ^ i % 2 ≡ 1
  pub at : t < k → w / 2 ^ t % 2 ≡ 0

lowest-bit-clear : (k w : ℕ) → w % 2 ≡ 0 → Lowest k w 0
lowest-bit-clear k w h = record { below = λ i l. absurd (let z : i < 0 = l in omega arith); at = λ _. low_bit w ∙ h }

further : (k w t : ℕ) → w % 2 ≡ 1 → Lowest k (w / 2) t → Lowest (suc k) w (suc t)
further k w t h g = record { below = low; at = λ l. next_bit w t ∙ g.at (omega arith) }
  where
    low : (i : ℕ) → i < suc t → w / 2 ^ i % 2 ≡ 1
    low zero l = low_bit w ∙ h
    low (suc i) l = next_bit w i ∙ g.below i (omega arith)

pub lowest : (k w : ℕ) → w < 2 ^ k → Lowest k w (lowest_clear k w)
unfolding lowest_clear count_trailing_zeros
lowest zero w h = record { below = λ i l. absurd (let z : i < 0 = l in omega arith); at = λ l. absurd (let z : 0 < 0 = l in omega arith) }
lowest (suc k) w h =
    let p : 2 ^ suc k ≡ 2 * 2 ^ k = pow-suc 2 k ∙ omega arith in
    let q : (2 ^ suc k - 1 - w) / 2 ≡ 2 ^ k - 1 - w / 2 = omega (arith, p, h) in
    let r : (2 ^ suc k - 1 - w) % 2 ≡ 1 - w % 2 = omega (arith, p, h) in
    let g : Lowest k (w / 2) (count_trailing_zeros k (2 ^ k - 1 - w / 2)) = lowest k (w / 2) (omega (arith, p, h)) in
    rw (q, r) (bit (w % 2) refl g)
  where
    bit : (b : ℕ) → w % 2 ≡ b → Lowest k (w / 2) (count_trailing_zeros k (2 ^ k - 1 - w / 2)) → Lowest (suc k) w (under (1 - w % 2) (count_trailing_zeros k (2 ^ k - 1 - w / 2)))
    bit zero e g = rw e (lowest-bit-clear (suc k) w e)
    bit (suc b) e g = let o : w % 2 ≡ 1 = omega (arith, e) in rw o (further k w _ o g)

module _ (w : ℕ) (fits : w < 2 ^ 64) (v : ℕ) (small : v < 6) where
  abbrev t : ℕ
  t = lowest_clear 64 w

  within : t ≤ 64
  unfolding lowest_clear
  within = trailing_le 64 _

  -- the first bit of what is left of a word, where all below the lowest clear bit is set
  set_first : (s n : ℕ) → 0 < n → s < t → w / 2 ^ s % 2 ^ n % 2 ≡ 1
  set_first s n p l =
      let q : n - 1 + 1 ≡ n = omega (arith, p) in
      (rw q at (mod-mod-pow (w / 2 ^ s) (n - 1) 1)) ∙ (lowest 64 w fits).below s l

  -- a block below the lowest clear bit is not free
  block_held : (i : ℕ) → i * 2 ^ v + 2 ^ v ≤ t → hit (word w) v 0 i ≡ false
  block_held i l =
      let p : 0 < 2 ^ v = pow_pos v in
      let b : Block (word w) v i = record { order = omega (arith, small); inside = omega (arith, l, within); small = omega arith } in
      let r : ℕ = w / 2 ^ (i * 2 ^ v) % 2 ^ (2 ^ v) in
      let o : r % 2 ≡ 1 = set_first (i * 2 ^ v) (2 ^ v) p (omega (arith, l, p)) in
      let z : leb 0 i ≡ true = le-leb 0 i zero-le in
      rw z (sym (word-free w v i (2 ^ v) refl b r refl small) ∙ ne_eqb r 0 (λ e. (let y : 0 % 2 ≡ 1 = rw e at o in omega arith)))

  -- the block that holds it
  module _ (l : t < 64) (b : ℕ) (e : b ≡ t / 2 ^ v) where
    word-has : b < 2 ^ (6 - v)
    word-has =
        let c : 2 ^ 6 ≡ 2 ^ (6 - v) * 2 ^ v = pow-part 6 v (omega (arith, small)) in
        rw e ((div-lt_iff_lt-mul (pow_pos v)).1 (omega (arith, l, c)))

    pub clear-block : Block (word w) v b
    clear-block =
        let c : 2 ^ 6 ≡ 2 ^ (6 - v) * 2 ^ v = pow-part 6 v (omega (arith, small)) in
        record {
          order = omega (arith, small);
          inside = omega (arith, c, suc-mul b (2 ^ v), mul-le-mul_right {m = suc b} {n = 2 ^ (6 - v)} (2 ^ v) word-has);
          small = omega arith;
        }

    -- if it is free, it is the first that is
    pub clear_first : eqb (held_in (word w) v b) 0 ≡ true → b ≡ word_seek w 6 v 0
    unfolding word_seek seek_in
    clear_first f =
        let a : 0 * 2 ^ (6 - v) ≡ 0 = zero-mul _ in
        let d : b * 2 ^ v ≤ t = rw e (div-mul-le_self t (2 ^ v)) in
        let z : leb 0 b ≡ true = le-leb 0 b zero-le in
        sym (ap (found_or 64) (first-at (hit (word w) v 0) (0 * 2 ^ (6 - v)) (2 ^ (6 - v)) b (omega (arith, a)) (omega (arith, a, word-has))
        (λ i _ m. block_held i (omega (arith, d, suc-mul i (2 ^ v), mul-le-mul_right {m = suc i} {n = b} (2 ^ v) m)))
        (rw z f)))
