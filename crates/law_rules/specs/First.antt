-- The first number of a range that passes a test. Assumes nothing.
use Rattle.std.proofs.Math.Path.{◌≡◌, refl, sym, ap}
use Rattle.std.proofs.Common.{ap₂, ◌∙◌, ⊎_elim, add-one, add-zero, add-suc, eq-or-lt_of_le, Option, Some, None}
use Rattle.std.specs.Prelude.{Bool}
use Rattle.std.proofs.Math.Bool.{true, false}
use Prim.Native.Nat.{ℕ, zero, suc, ◌+◌, ◌-◌, ◌*◌, ◌^◌, ◌<◌, ◌≤◌}
use Rattle.std.proofs.Math.Nat.{zero-add, add_assoc, le_dest}
use native.Mathlib.Omega.{arith}
use Rattle.rules.specs.Base.{pick, or_found, first_in}
use Rattle.law_rules.specs.Cases.{below_or}
use Rattle.law_rules.specs.Power.{pow-half, double}

or_assoc : (x y z : Option ℕ) → or_found (or_found x y) z ≡ or_found x (or_found y z)
or_assoc (Some i) y z = refl
or_assoc None y z = refl

or-none : (x : Option ℕ) → or_found x None ≡ x
or-none (Some i) = refl
or-none None = refl

-- what passed the test, in the range
pub record Sound (t : ℕ → Bool) (a n i : ℕ) : Type 0 where
  pub passed : t i ≡ true
  pub low : a ≤ i
  pub high : i < a + n

module _ (t : ℕ → Bool) where
  pub first_one : (a : ℕ) → first_in t a 1 ≡ pick (t a) (Some a) None
  unfolding first_in
  first_one a = ap (λ (x : ℕ). pick (t x) (Some x) None) (add-zero a)

  -- a range in two parts
  pub first-add : (a m n : ℕ) → first_in t a (m + n) ≡ or_found (first_in t a m) (first_in t (a + m) n)
  unfolding first_in
  first-add a m zero = ap (first_in t a) (add-zero m) ∙ sym (or-none (first_in t a m))
  first-add a m (suc n) = rw (add-suc, first_in, first-add a m n, add_assoc a m n) (or_assoc (first_in t a m) (first_in t (a + m) n) _)

  -- none passes
  pub first-none : (a n : ℕ) → ((i : ℕ) → a ≤ i → i < a + n → t i ≡ false) → first_in t a n ≡ None
  unfolding first_in
  first-none a zero h = refl
  first-none a (suc n) h =
      let e : first_in t a n ≡ None = first-none a n (λ i l m. h i l (omega arith)) in
      let f : t (a + n) ≡ false = h (a + n) (omega arith) (omega arith) in
      simp (e, f)

  -- c passes, and none before it does
  pub first-at : (a n c : ℕ) → a ≤ c → c < a + n → ((i : ℕ) → a ≤ i → i < c → t i ≡ false) → t c ≡ true → first_in t a n ≡ Some c
  first-at a n c l m h e =
      let d = le_dest l in
      let k : ℕ = d.0 in
      let u : suc c ≤ a + n = m in
      let r = le_dest u in
      let p : n ≡ k + (1 + r.0) = omega arith in
      let q : a + k ≡ c = omega arith in
      let f : first_in t a k ≡ None = first-none a k (λ i x y. h i x (omega arith)) in
      let g : first_in t (a + k) 1 ≡ Some c = rw q (first_one c ∙ simp e) in
      ap (first_in t a) p ∙ first-add a k (1 + r.0) ∙ simp f (first-add (a + k) 1 r.0 ∙ simp g)

  -- what is found passed
  pub first-sound : (a n i : ℕ) → first_in t a n ≡ Some i → Sound t a n i
  unfolding first_in
  first-sound a zero i e = absurd (let z : ◌≡◌ {A = ℕ} 0 1 = cc in omega arith)
  first-sound a (suc n) i e = go (first_in t a n) refl (first-sound a n i)
    where
      last : (b : Bool) → t (a + n) ≡ b → pick b (Some (a + n)) None ≡ Some i → Sound t a (suc n) i
      last true h q = let k : a + n ≡ i = cc in record { passed = ap t (sym k) ∙ h; low = omega arith; high = omega arith }
      last false h q = absurd (let z : ◌≡◌ {A = ℕ} 0 1 = cc in omega arith)

      go : (x : Option ℕ) → first_in t a n ≡ x → (first_in t a n ≡ Some i → Sound t a n i) → Sound t a (suc n) i
      go (Some j) h before =
          let k : j ≡ i = (let q : Some j ≡ Some i = simp h at e in cc) in
          let s : Sound t a n i = before (h ∙ ap Some k) in
          record { passed = s.passed; low = s.low; high = omega (arith, s.high) }
      go None h before = last (t (a + n)) refl (simp h at e)

  -- where nothing is found none passes
  pub first-empty : (a n : ℕ) → first_in t a n ≡ None → (k : ℕ) → a ≤ k → k < a + n → t k ≡ false
  unfolding first_in
  first-empty a zero e k l m = absurd (omega arith)
  first-empty a (suc n) e k l m = go (first_in t a n) refl (first-empty a n)
    where
      last : (b : Bool) → t (a + n) ≡ b → pick b (Some (a + n)) None ≡ None → t (a + n) ≡ false
      last true h q = absurd (let z : ◌≡◌ {A = ℕ} 0 1 = cc in omega arith)
      last false h q = h

      go : (x : Option ℕ) → first_in t a n ≡ x → (first_in t a n ≡ None → (i : ℕ) → a ≤ i → i < a + n → t i ≡ false) → t k ≡ false
      go (Some j) h before = absurd (let q : Some j ≡ None = simp h at e in let z : ◌≡◌ {A = ℕ} 0 1 = cc in omega arith)
      go None h before =
          let c : k ≤ a + n = omega arith in
          ⊎_elim (λ q. ap t q ∙ last (t (a + n)) refl (simp h at e)) (λ r. before h k l r) (eq-or-lt_of_le c)

  -- and none before what is found
  pub first-least : (a n i : ℕ) → first_in t a n ≡ Some i → (k : ℕ) → a ≤ k → k < i → t k ≡ false
  unfolding first_in
  first-least a zero i e k l m = absurd (let z : ◌≡◌ {A = ℕ} 0 1 = cc in omega arith)
  first-least a (suc n) i e k l m = go (first_in t a n) refl (first-least a n i)
    where
      last : (b : Bool) → pick b (Some (a + n)) None ≡ Some i → a + n ≡ i
      last true q = cc
      last false q = absurd (let z : ◌≡◌ {A = ℕ} 0 1 = cc in omega arith)

      go : (x : Option ℕ) → first_in t a n ≡ x → (first_in t a n ≡ Some i → (j : ℕ) → a ≤ j → j < i → t j ≡ false) → t k ≡ false
      go (Some j) h before = let c : j ≡ i = (let q : Some j ≡ Some i = simp h at e in cc) in before (h ∙ ap Some c) k l m
      go None h before = let c : a + n ≡ i = last (t (a + n)) (simp h at e) in first-empty a n h k l (omega arith)

  -- a loop that counts up from 0: one number more that does not pass
  pub first_more : (d : ℕ) → first_in t 0 d ≡ None → t d ≡ false → first_in t 0 (d + 1) ≡ None
  unfolding first_in
  first_more d h e = rw (add-one d, h, zero-add d, e)

  -- and the first that does
  pub first-hit : (n d : ℕ) → d < n → first_in t 0 d ≡ None → t d ≡ true → first_in t 0 n ≡ Some d
  first-hit n d l h e = first-at 0 n d (omega arith) (omega arith) (λ i a b. first-empty 0 d h i a (omega arith)) e

  -- a range of 2^(o - w) from i * 2^(o - w) is its halves
  pub first-half : (o w i : ℕ) → w < o
      → first_in t (i * 2 ^ (o - w)) (2 ^ (o - w))
      ≡ or_found (first_in t (i * 2 * 2 ^ (o - 1 - w)) (2 ^ (o - 1 - w))) (first_in t ((i * 2 + 1) * 2 ^ (o - 1 - w)) (2 ^ (o - 1 - w)))
  first-half o w i h =
      let p : 2 ^ (o - w) ≡ 2 ^ (o - 1 - w) + 2 ^ (o - 1 - w) = pow-half (o - w) (o - 1 - w) (omega arith) in
      let d = double i (2 ^ (o - w)) (2 ^ (o - 1 - w)) p in
      ap₂ (λ (x y : ℕ). first_in t x y) d.0 p ∙ first-add _ _ _ ∙ ap (λ (x : ℕ). or_found (first_in t (i * 2 * 2 ^ (o - 1 - w)) (2 ^ (o - 1 - w))) (first_in t x (2 ^ (o - 1 - w)))) (sym d.1)

  pub first_leaf : (o w i : ℕ) → o ≡ w → first_in t (i * 2 ^ (o - w)) (2 ^ (o - w)) ≡ pick (t i) (Some i) None
  first_leaf o w i e =
      let z : o - w ≡ 0 = omega arith in
      let a : i * 1 ≡ i = omega arith in
      rw (z, a) (first_one i)

  -- none passes before a part of the range in which c is found
  pub first-skip : (a n b m c : ℕ) → a ≤ b → b + m ≤ a + n → ((i : ℕ) → a ≤ i → i < b → t i ≡ false) → first_in t b m ≡ Some c → first_in t a n ≡ Some c
  first-skip a n b m c l h f e =
      let s = first-sound b m c e in
      first-at a n c (omega (arith, s.low)) (omega (arith, s.high)) (λ i x y. ⊎_elim (λ k. f i x k) (λ k. first-least b m c e i k y) (below_or i b)) s.passed

-- two tests that agree on the range
pub first-ext : (t u : ℕ → Bool) (a n : ℕ) → ((i : ℕ) → a ≤ i → i < a + n → t i ≡ u i) → first_in t a n ≡ first_in u a n
unfolding first_in
first-ext t u a zero h = refl
first-ext t u a (suc n) h =
    ap₂ (λ (x : Option ℕ) (b : Bool). or_found x (pick b (Some (a + n)) None)) (first-ext t u a n (λ i l m. h i l (omega arith))) (h (a + n) (omega arith) (omega arith))

-- the number, moved on by b
abbrev pub moved_by : ℕ → Option ℕ → Option ℕ
moved_by b (Some i) = Some (b + i)
moved_by b None = None

-- a range moved on
pub first-shift : (t : ℕ → Bool) (b a n : ℕ) → first_in t (b + a) n ≡ moved_by b (first_in (λ i. t (b + i)) a n)
unfolding first_in
first-shift t b a zero = refl
first-shift t b a (suc n) = rw (first-shift t b a n, add_assoc b a n) (go (first_in (λ i. t (b + i)) a n) (t (b + (a + n))))
  where
    go : (x : Option ℕ) (y : Bool) → or_found (moved_by b x) (pick y (Some (b + (a + n))) None) ≡ moved_by b (or_found x (pick y (Some (a + n)) None))
    go (Some i) y = refl
    go None true = refl
    go None false = refl
