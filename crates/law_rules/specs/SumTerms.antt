-- Laws of sums over numbers: one term, one changed, one alone, two of them, two sums of terms, sums exchanged, equal totals. Assumes nothing.
use Rattle.std.specs.Prelude.{◌≡◌, refl, ◌⊎◌, ◌≢◌, ℕ, zero, suc, ◌+◌, ◌<◌, ◌≤◌}
use Rattle.std.proofs.Common.{sym, ap, inl, inr, ⊎_elim, eq-or-lt_of_le, arith}
use Rattle.std.proofs.Math.Decide.{dec_lt}
use Rattle.rules.specs.Base.{sum}
use Rattle.law_rules.specs.Sum.{sum-ext, sum-zero}

-- a term is at most the sum
pub sum-ge : (f : ℕ → ℕ) (a n j : ℕ) → a ≤ j → j < a + n → f j ≤ sum f a n
unfolding sum
sum-ge f a zero j l m = absurd (omega arith)
sum-ge f a (suc n) j l m =
    let k : j ≤ a + n = omega arith in
    ⊎_elim (λ q. (let e : f j ≡ f (a + n) = ap f q in omega arith)) (λ r. (let g : f j ≤ sum f a n = sum-ge f a n j l r in omega arith)) (eq-or-lt_of_le k)

-- one term changes
pub sum-change : (f g : ℕ → ℕ) (a n j : ℕ) → a ≤ j → j < a + n → ((i : ℕ) → i ≢ j → f i ≡ g i) → sum g a n + f j ≡ sum f a n + g j
unfolding sum
sum-change f g a zero j l m same = absurd (omega arith)
sum-change f g a (suc n) j l m same =
    let k : j ≤ a + n = omega arith in
    ⊎_elim
    (λ q.
    let e : sum f a n ≡ sum g a n = sum-ext f g a n (λ i x y. same i (λ (d : i ≡ j). omega arith)) in
    let u : f j ≡ f (a + n) = ap f q in
    let v : g j ≡ g (a + n) = ap g q in
    omega arith)
    (λ r.
    let e : sum g a n + f j ≡ sum f a n + g j = sum-change f g a n j l r same in
    let u : f (a + n) ≡ g (a + n) = same (a + n) (λ d. omega arith) in
    omega arith)
    (eq-or-lt_of_le k)

-- all terms but one are nothing
pub sum-only : (f : ℕ → ℕ) (n j : ℕ) → j < n → ((i : ℕ) → i ≢ j → f i ≡ 0) → sum f 0 n ≡ f j
sum-only f n j lt h =
    omega (
      arith,
      sum-change (λ i. 0) f 0 n j (omega arith) (omega arith) (λ i ne. sym (h i ne)),
      sum-zero (λ i. 0) 0 n (λ i x y. refl),
    )

-- two terms are at most the sum
pub sum-two : (f : ℕ → ℕ) (n i j : ℕ) → i < j → j < n → f i + f j ≤ sum f 0 n
unfolding sum
sum-two f zero i j l m = absurd (omega arith)
sum-two f (suc n) i j l m =
    let k : j ≤ n = omega arith in
    let z : 0 + n ≡ n = omega arith in
    let t : f (0 + n) ≡ f n = ap f z in
    ⊎_elim
    (λ q. (let e : f j ≡ f n = ap f q in omega (arith, e, t, sum-ge f 0 n i (omega arith) (omega arith))))
    (λ r. omega (arith, sum-two f n i j l r))
    (eq-or-lt_of_le k)

-- a sum is nothing, or has a term that is something
pub sum-find : (f : ℕ → ℕ) (n : ℕ) → (sum f 0 n ≡ 0) ⊎ ((j : ℕ) × ((j < n) × (0 < f j)))
unfolding sum
sum-find f zero = inl refl
sum-find f (suc n) = go (sum-find f n) (dec_lt 0 (f n))
  where
    go : (sum f 0 n ≡ 0) ⊎ ((j : ℕ) × ((j < n) × (0 < f j))) → Dec (0 < f n) → (sum f 0 n + f (0 + n) ≡ 0) ⊎ ((j : ℕ) × ((j < suc n) × (0 < f j)))
    go (inr (j, (l, p))) d = inr (j, (omega arith, p))
    go (inl e) (yes p) = inr (n, (omega arith, p))
    go (inl e) (no p) = inl (let z : 0 + n ≡ n = omega arith in let t : f (0 + n) ≡ f n = ap f z in omega arith)

-- the sum of two sums
pub sum-plus : (f g : ℕ → ℕ) (a n : ℕ) → sum (λ i. f i + g i) a n ≡ sum f a n + sum g a n
unfolding sum
sum-plus f g a zero = refl
sum-plus f g a (suc n) = omega (arith, sum-plus f g a n)

-- sums exchanged
pub sum-swap : (f : ℕ → ℕ → ℕ) (a n b m : ℕ) → sum (λ i. sum (f i) b m) a n ≡ sum (λ j. sum (λ i. f i j) a n) b m
unfolding sum
sum-swap f a zero b m = sym (sum-zero (λ j. 0) b m (λ i x y. refl))
sum-swap f a (suc n) b m = omega (arith, sum-swap f a n b m, sum-plus (λ j. sum (λ i. f i j) a n) (f (a + n)) b m)

-- termwise at most
pub sum_mono : (f g : ℕ → ℕ) (a n : ℕ) → ((i : ℕ) → a ≤ i → i < a + n → f i ≤ g i) → sum f a n ≤ sum g a n
unfolding sum
sum_mono f g a zero h = omega arith
sum_mono f g a (suc n) h =
    let e : sum f a n ≤ sum g a n = sum_mono f g a n (λ i l m. h i l (omega arith)) in
    omega (arith, h (a + n) (omega arith) (omega arith))

-- termwise at most, with equal totals: equal
pub sum-tight : (f g : ℕ → ℕ) (a n : ℕ) → ((i : ℕ) → a ≤ i → i < a + n → f i ≤ g i) → sum f a n ≡ sum g a n → (j : ℕ) → a ≤ j → j < a + n → f j ≡ g j
unfolding sum
sum-tight f g a zero h e j l m = absurd (omega arith)
sum-tight f g a (suc n) h e j l m =
    let s : sum f a n ≤ sum g a n = sum_mono f g a n (λ i x y. h i x (omega arith)) in
    let t : f (a + n) ≤ g (a + n) = h (a + n) (omega arith) (omega arith) in
    let k : j ≤ a + n = omega arith in
    ⊎_elim
    (λ q.
    let u : f j ≡ f (a + n) = ap f q in
    let v : g j ≡ g (a + n) = ap g q in
    omega arith)
    (λ r. sum-tight f g a n (λ i x y. h i x (omega arith)) (omega arith) j l r)
    (eq-or-lt_of_le k)

-- a longer prefix has a larger sum
pub sum-prefix : (f : ℕ → ℕ) (a k m : ℕ) → k ≤ m → sum f a k ≤ sum f a m
unfolding sum
sum-prefix f a k zero h = let e : k ≡ 0 = omega arith in rw e (omega arith)
sum-prefix f a k (suc m) h =
    ⊎_elim (λ q. rw q (omega arith)) (λ r. (let e : sum f a k ≤ sum f a m = sum-prefix f a k m (omega arith) in omega arith)) (eq-or-lt_of_le h)
