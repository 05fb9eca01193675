-- The words that a start writes: the first g frames are free, all others held, and the rules stand. Assumes nothing.
use Rattle.std.specs.Prelude.{◌≡◌, refl, Bool, true, leb, length, get_or}
use Rattle.std.proofs.Common.{sym, ◌∙◌, zero-add, add-zero, pow_pos, leb-true, leb-false}
use Rattle.std.proofs.Math.Path.{ap}
use Rattle.std.proofs.Math.Bool.{false}
use Prim.Native.Nat.{ℕ, zero, suc, ◌+◌, ◌-◌, ◌*◌, ◌/◌, ◌%◌, ◌^◌, ◌<◌, ◌≤◌, min}
use Rattle.std.proofs.Math.Nat.{mul_comm}
use native.Mathlib.Omega.{arith}
use Rattle.std.proofs.Math.Decide.{dec_lt}
use Rattle.std.proofs.Math.ListN.{get_or-eq_default}
use Rattle.std.proofs.Math.Pow.{high_ones}
use Rattle.rules.specs.Base.{pick, sum, listed}
use Rattle.rules.specs.Words.{Config, tree_frames, tree_rows, trees_of, local_count, tree_of, local_of, entry, entry_at, local_at}
use Rattle.rules.specs.Policy.{accepted}
use Rattle.rules.specs.Lower.{bit_at, bit, held}
use Rattle.rules_calls.specs.Calls.{at_most, fresh_tree, fresh_word, fresh_state}
use Rattle.law_rules.specs.Sum.{sum-zero}
use Rattle.law_rules.specs.Field.{bit-low, bit_high, bit-every, bit-none}
use Rattle.law_rules.specs.Sizes.{Size, frames-le, next-tree, count-frames, count_bits}
use Rattle.law_rules.specs.RoundTrips.{tree-word, absent-word}
use Rattle.law_rules.specs.Lists.{length-listed, get_or-listed}
use Rattle.law_rules.specs.All.{true-false}
use Rattle.law_rules.specs.Accepted.{accepted-says}
use Rattle.thm_hand.specs.Hand.{share, holds, shares, holders, Kept}
use Rattle.thm_hand.specs.Here.{share-none, holds-none}

-- the smaller of two
at-most : (m x : ℕ) → at_most m x ≡ min m x
at-most m x = go (leb m x) refl
  where
    go : (b : Bool) → leb m x ≡ b → pick b m x ≡ min m x
    go true e = let l : m ≤ x = leb-true _ _ e in omega arith
    go false e = let l : x < m = leb-false _ _ e in omega arith

-- ---- a word whose lowest k bits are clear
word-as : (k : ℕ) → k ≤ 64 → 2 ^ 64 - 2 ^ k ≡ (2 ^ (64 - k) - 1) * 2 ^ k + 0
word-as k h = let e : 64 ≡ (64 - k) + k = omega arith in ap (λ (x : ℕ). 2 ^ x - 2 ^ k) e ∙ high_ones (64 - k) k ∙ sym (add-zero _)

word_low : (k i : ℕ) → k ≤ 64 → i < k → bit_at (2 ^ 64 - 2 ^ k) i ≡ 0
word_low k i h l = ap (λ (x : ℕ). bit_at x i) (word-as k h) ∙ bit-low (2 ^ (64 - k) - 1) k 0 i l ∙ bit-none i

word-high : (k i : ℕ) → k ≤ 64 → k ≤ i → i < 64 → bit_at (2 ^ 64 - 2 ^ k) i ≡ 1
word-high k i h l m =
    let e : i ≡ k + (i - k) = omega arith in
    ap (λ (x : ℕ). bit_at x i) (word-as k h)
    ∙ ap (λ (y : ℕ). bit_at ((2 ^ (64 - k) - 1) * 2 ^ k + 0) y) e
    ∙ bit_high (2 ^ (64 - k) - 1) k 0 (i - k) (pow_pos k)
    ∙ bit-every (64 - k) (i - k) (omega arith)

-- ---- n words where the first g frames are free
module _ (g n : ℕ) where
  word_at : (f : ℕ) → f < n * 64 → get_or (listed (fresh_word g) 0 n) (f / 64) 0 ≡ 2 ^ 64 - 2 ^ at_most 64 (g - 64 * (f / 64))
  unfolding fresh_word
  word_at f l = get_or-listed (fresh_word g) 0 n (f / 64) 0 (omega arith) ∙ ap (fresh_word g) (zero-add (f / 64))

  pub fresh-clear : (f : ℕ) → f < n * 64 → f < g → bit (listed (fresh_word g) 0 n) f ≡ 0
  fresh-clear f l m =
      ap (λ (x : ℕ). bit_at x (f % 64)) (word_at f l)
      ∙ word_low (at_most 64 (g - 64 * (f / 64))) (f % 64) (omega (arith, at-most 64 (g - 64 * (f / 64)))) (omega (arith, at-most 64 (g - 64 * (f / 64))))

  pub fresh_set : (f : ℕ) → f < n * 64 → g ≤ f → bit (listed (fresh_word g) 0 n) f ≡ 1
  fresh_set f l m =
      ap (λ (x : ℕ). bit_at x (f % 64)) (word_at f l)
      ∙ word-high (at_most 64 (g - 64 * (f / 64))) (f % 64) (omega (arith, at-most 64 (g - 64 * (f / 64)))) (omega (arith, at-most 64 (g - 64 * (f / 64)))) (omega arith)

  -- how many frames of a range are held
  held-fresh : (a k : ℕ) → a + k ≤ n * 64 → held (listed (fresh_word g) 0 n) a k + min k (g - a) ≡ k
  unfolding held sum
  held-fresh a zero l = omega arith
  held-fresh a (suc k) l = go (dec_lt (a + k) g) (held-fresh a k (omega arith))
    where
      go : Dec (a + k < g) → held (listed (fresh_word g) 0 n) a k + min k (g - a) ≡ k → held (listed (fresh_word g) 0 n) a k + bit (listed (fresh_word g) 0 n) (a + k) + min (suc k) (g - a) ≡ suc k
      go (yes m) h = let e : bit (listed (fresh_word g) 0 n) (a + k) ≡ 0 = fresh-clear (a + k) (omega arith) m in omega (arith, e, h)
      go (no m) h = let e : bit (listed (fresh_word g) 0 n) (a + k) ≡ 1 = fresh_set (a + k) (omega arith) (omega arith) in omega (arith, e, h)

-- ---- absent locals
pub zeros-at : (n j : ℕ) → ◌≡◌ {A = ℕ} (get_or (listed (λ j. 0) 0 n) j 0) 0
zeros-at n j = go (dec_lt j n)
  where
    go : Dec (j < n) → ◌≡◌ {A = ℕ} (get_or (listed (λ j. 0) 0 n) j 0) 0
    go (yes l) = get_or-listed (λ j. 0) 0 n j 0 l
    go (no l) = get_or-eq_default (listed (λ j. 0) 0 n) 0 (rw (length-listed (λ j. 0) 0 n) (omega arith))

zeros-absent : (n j : ℕ) → (local_at (listed (λ j. 0) 0 n) j).present ≡ false
zeros-absent n j = ap (λ (x : ℕ). (local_of x).present) (zeros-at n j) ∙ absent-word

zeros-holders : (z t n : ℕ) → holders z t (listed (λ j. 0) 0 n) ≡ 0
unfolding holders
zeros-holders z t n = sum-zero (λ j. holds z (local_at (listed (λ j. 0) 0 n) j) t) 0 (length (listed (λ j. 0) 0 n)) (λ j x y. holds-none z (local_at (listed (λ j. 0) 0 n) j) t (zeros-absent n j))

zeros-shares : (z t n : ℕ) → shares z t (listed (λ j. 0) 0 n) ≡ 0
unfolding shares
zeros-shares z t n = sum-zero (λ j. share z (local_at (listed (λ j. 0) 0 n) j) t) 0 (length (listed (λ j. 0) 0 n)) (λ j x y. share-none z (local_at (listed (λ j. 0) 0 n) j) t (zeros-absent n j))

-- ---- the whole state
module _ (c : Config) (sz : Size c.tree_order) (ok : accepted c ≡ true) (g : ℕ) (le : g ≤ c.frames) where
  pub fresh-entry : (t : ℕ) → t < trees_of c
      → entry_at (listed (fresh_tree c.tree_order c.default g) 0 (trees_of c)) t ≡ entry (at_most (tree_frames c.tree_order) (g - tree_frames c.tree_order * t)) false c.default
  unfolding fresh_tree
  fresh-entry t lt =
      ap tree_of (get_or-listed (fresh_tree c.tree_order c.default g) 0 (trees_of c) t 0 lt ∙ ap (fresh_tree c.tree_order c.default g) (zero-add t))
      ∙ tree-word (at_most (tree_frames c.tree_order) (g - tree_frames c.tree_order * t)) false c.default
      (omega (arith, at-most (tree_frames c.tree_order) (g - tree_frames c.tree_order * t), frames-le c.tree_order sz)) (accepted-says c ok).default.0

  pub bits-length : length (listed (fresh_word g) 0 (tree_rows c.tree_order * trees_of c)) ≡ tree_rows c.tree_order * trees_of c
  bits-length = length-listed (fresh_word g) 0 (tree_rows c.tree_order * trees_of c)

  pub fresh_kept : Kept c (fresh_state c g).trees (fresh_state c g).locals (fresh_state c g).bits
  unfolding fresh_state
  fresh_kept =
      record {
        config = ok;
        tree_words = length-listed (fresh_tree c.tree_order c.default g) 0 (trees_of c);
        local_words = length-listed (λ j. 0) 0 (local_count c.places);
        bit_words = bits-length;
        free = λ t lt. rw (fresh-entry t lt) (omega (arith, at-most (tree_frames c.tree_order) (g - tree_frames c.tree_order * t)));
        class = λ t lt. rw (fresh-entry t lt) (accepted-says c ok).default;
        one = λ t lt. rw (fresh-entry t lt) (omega (arith, zeros-holders c.tree_order t (local_count c.places)));
        sum = λ t lt. rw (fresh-entry t lt)
            (omega (
              arith,
              zeros-shares c.tree_order t (local_count c.places),
              at-most (tree_frames c.tree_order) (g - tree_frames c.tree_order * t),
              mul_comm (tree_frames c.tree_order) t,
              held-fresh g (tree_rows c.tree_order * trees_of c) (t * tree_frames c.tree_order) (tree_frames c.tree_order) (omega (arith, next-tree c.tree_order sz t (trees_of c) lt, count_bits c.tree_order sz c.frames)),
            ));
        inside = λ j p. true-false p (zeros-absent (local_count c.places) j);
        pair = λ k i lk li p. true-false p (zeros-absent (local_count c.places) _);
        absent = λ j p. zeros-at (local_count c.places) j;
        past = rw bits-length
            (omega (
              arith,
              held-fresh g (tree_rows c.tree_order * trees_of c) c.frames (tree_rows c.tree_order * trees_of c * 64 - c.frames) (omega (arith, count-frames c.tree_order sz c.frames, count_bits c.tree_order sz c.frames)),
            ));
      }
