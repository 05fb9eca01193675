-- Laws of the sum of f over the n numbers from a. Assumes nothing.
use Rattle.std.specs.Prelude.{◌≡◌}
use Rattle.std.proofs.Math.Path.{refl, ap}
use Rattle.std.proofs.Common.{ap₂, ◌∙◌, add-suc, eq-or-lt_of_le, add-one}
use Rattle.std.proofs.Math.Logic.{⊎_elim}
use Prim.Native.Nat.{ℕ, zero, suc, ◌+◌, ◌<◌, ◌≤◌}
use Rattle.std.proofs.Math.Nat.{zero-add, add-zero, add_assoc}
use native.Mathlib.Omega.{arith}
use Rattle.rules.specs.Base.{sum}

module _ (f : ℕ → ℕ) where
  pub sum-none : (a : ℕ) → sum f a 0 ≡ 0
  unfolding sum
  sum-none a = refl

  -- over one number more
  pub sum_more : (k : ℕ) → sum f 0 (k + 1) ≡ sum f 0 k + f k
  unfolding sum
  sum_more k = rw (add-one k, zero-add k)

  pub sum_one : (a : ℕ) → sum f a 1 ≡ f a
  unfolding sum
  sum_one a = rw add-zero (omega arith)

  pub sum-add : (a m n : ℕ) → sum f a (m + n) ≡ sum f a m + sum f (a + m) n
  unfolding sum
  sum-add a m zero = rw add-zero (omega arith)
  sum-add a m (suc n) = rw (add-suc, sum, sum-add a m n, add_assoc a m n) (omega arith)

  pub sum-shift : (b a n : ℕ) → sum f (b + a) n ≡ sum (λ i. f (b + i)) a n
  unfolding sum
  sum-shift b a zero = refl
  sum-shift b a (suc n) = rw (sum-shift b a n, add_assoc b a n)

  -- a value for each number
  pub sum-zero : (a n : ℕ) → ((i : ℕ) → a ≤ i → i < a + n → f i ≡ 0) → sum f a n ≡ 0
  unfolding sum
  sum-zero a zero h = refl
  sum-zero a (suc n) h =
      let e : sum f a n ≡ 0 = sum-zero a n (λ i l m. h i l (omega arith)) in
      omega (arith, h (a + n) (omega arith) (omega arith))

  pub sum-all : (a n : ℕ) → ((i : ℕ) → a ≤ i → i < a + n → f i ≡ 1) → sum f a n ≡ n
  unfolding sum
  sum-all a zero h = refl
  sum-all a (suc n) h =
      let e : sum f a n ≡ n = sum-all a n (λ i l m. h i l (omega arith)) in
      omega (arith, h (a + n) (omega arith) (omega arith))

  pub sum-le : (a n : ℕ) → ((i : ℕ) → f i ≤ 1) → sum f a n ≤ n
  unfolding sum
  sum-le a zero h = omega arith
  sum-le a (suc n) h = omega (arith, sum-le a n h, h (a + n))

  -- and back
  pub zero-at : (a n : ℕ) → sum f a n ≡ 0 → (i : ℕ) → a ≤ i → i < a + n → f i ≡ 0
  unfolding sum
  zero-at a zero e i l m = absurd (omega arith)
  zero-at a (suc n) e i l m =
      let k : i ≤ a + n = omega arith in
      ⊎_elim (λ q. ap f q ∙ omega arith) (λ r. zero-at a n (omega arith) i l r) (eq-or-lt_of_le k)

  pub one_at : (a n : ℕ) → ((i : ℕ) → f i ≤ 1) → sum f a n ≡ n → (i : ℕ) → a ≤ i → i < a + n → f i ≡ 1
  unfolding sum
  one_at a zero b e i l m = absurd (omega arith)
  one_at a (suc n) b e i l m =
      let s : sum f a n ≤ n = sum-le a n b in
      let t : f (a + n) ≤ 1 = b (a + n) in
      let k : i ≤ a + n = omega arith in
      ⊎_elim (λ q. ap f q ∙ omega arith) (λ r. one_at a n b (omega arith) i l r) (eq-or-lt_of_le k)

pub sum-ext : (f g : ℕ → ℕ) (a n : ℕ) → ((i : ℕ) → a ≤ i → i < a + n → f i ≡ g i) → sum f a n ≡ sum g a n
unfolding sum
sum-ext f g a zero h = refl
sum-ext f g a (suc n) h = ap₂ (λ (x y : ℕ). x + y) (sum-ext f g a n (λ i l m. h i l (omega arith))) (h (a + n) (omega arith) (omega arith))

-- the laws that a loop over a sum goes by
pub ruleset sum_loop = (sum-none, sum_more)
