-- Laws of computed tests: `both`, `implies`, `pick`, and a test at every number below n. Assumes nothing.
use Rattle.std.specs.Prelude.{◌≡◌, refl, Bool, true, false, not, ℕ, zero, suc, ◌+◌, ◌<◌, ◌≤◌, eqb}
use Rattle.std.proofs.Common.{ap, sym, ◌∙◌, true≢false, ⊎_elim, le_of_suc-le-suc, not-suc-le-zero, eq-or-lt_of_le, lt-suc_self, add-one, arith, eq-eqb, eqb-true}
use Rattle.std.specs.Int.Bits.{bit_or, or_zero_l, or_add_and}
use Rattle.std.proofs.lemmas.Nat.{and_le_l, and_le_r}
use Rattle.rules.specs.Base.{pick, both, all_below}
use Rattle.rules.specs.Policy.{implies}

-- by a test's answer
pub by : {X : Type 0} (t : Bool) → (t ≡ true → X) → (t ≡ false → X) → X
by true f g = f refl
by false f g = g refl

-- no test both passes and fails
pub true-false : {X : Type 0} {t : Bool} → t ≡ true → t ≡ false → X
true-false h g = absurd (true≢false (sym h ∙ g))

-- tests that pass together are one
pub same_test : (a b : Bool) → (a ≡ true → b ≡ true) → (b ≡ true → a ≡ true) → a ≡ b
same_test true b f g = sym (f refl)
same_test false true f g = g refl
same_test false false f g = refl

-- both tests pass: the first
pub both_left : (a b : Bool) → both a b ≡ true → a ≡ true
both_left true b h = refl
both_left false b h = h

-- both tests pass: the second
pub both_right : (a b : Bool) → both a b ≡ true → b ≡ true
both_right true b h = h
both_right false b h = true-false h refl

-- both tests pass
pub both_true : (a b : Bool) → a ≡ true → b ≡ true → both a b ≡ true
both_true a b h g = simp (h, g)

-- the second passes: the first decides
pub both-unit : (a b : Bool) → b ≡ true → both a b ≡ a
both-unit true b h = h
both-unit false b h = refl

-- the second fails
pub both_false : (a b : Bool) → b ≡ false → both a b ≡ false
both_false true b h = h
both_false false b h = refl

-- two words have no bit between them exactly if neither has one
pub or-empty : (a b : ℕ) → both (eqb a 0) (eqb b 0) ≡ eqb (bit_or a b) 0
or-empty a b = same_test (both (eqb a 0) (eqb b 0)) (eqb (bit_or a b) 0)
    (λ h. (let p : a ≡ 0 = eqb-true _ _ (both_left (eqb a 0) (eqb b 0) h) in let q : b ≡ 0 = eqb-true _ _ (both_right (eqb a 0) (eqb b 0) h) in
    eq-eqb (bit_or a b) 0 (rw (p, q) (or_zero_l 0))))
    (λ h. (let z : bit_or a b ≡ 0 = eqb-true _ _ h in
    let p : a ≡ 0 = omega (arith, z, or_add_and a b, and_le_r a b) in
    let q : b ≡ 0 = omega (arith, z, or_add_and a b, and_le_l a b) in
    both_true _ _ (eq-eqb _ _ p) (eq-eqb _ _ q)))

-- what follows from a test that passes
pub implies-at : (a b : Bool) → implies a b ≡ true → a ≡ true → b ≡ true
implies-at true b h e = h
implies-at false b h e = true-false e refl

-- from what follows
pub implies-make : (a b : Bool) → (a ≡ true → b ≡ true) → implies a b ≡ true
implies-make true b f = f refl
implies-make false b f = refl

-- the first of two values
pub pick_true : {A : Type 0} (t : Bool) (a b : A) → t ≡ true → pick t a b ≡ a
pick_true t a b h = rw h

-- below 0: nothing to test
pub all_none : (f : ℕ → Bool) → all_below 0 f ≡ true
unfolding all_below
all_none f = refl

-- one number more
pub all_more : (n : ℕ) (f : ℕ → Bool) → all_below n f ≡ true → f n ≡ true → all_below (n + 1) f ≡ true
unfolding all_below
all_more n f h e = rw (add-one, all_below) (simp (h, e))

-- the test at k, from the test at all
pub all-at : (n : ℕ) (f : ℕ → Bool) → all_below n f ≡ true → (k : ℕ) → k < n → f k ≡ true
unfolding all_below
all-at zero f h k l = absurd (not-suc-le-zero l)
all-at (suc n) f h k l = ⊎_elim (λ e. ap f e ∙ both_right (all_below n f) (f n) h) (λ m. all-at n f (both_left (all_below n f) (f n) h) k m) (eq-or-lt_of_le (le_of_suc-le-suc l))

-- one number more, as the two tests
pub all-next : (n : ℕ) (f : ℕ → Bool) → all_below (n + 1) f ≡ both (all_below n f) (f n)
unfolding all_below
all-next n f = rw (add-one n)

-- one failing test fails all
pub all-fails : (n : ℕ) (f : ℕ → Bool) (k : ℕ) → k < n → f k ≡ false → all_below n f ≡ false
unfolding all_below
all-fails zero f k l e = absurd (not-suc-le-zero l)
all-fails (suc n) f k l e = ⊎_elim (λ q. both_false (all_below n f) (f n) (ap f (sym q) ∙ e)) (λ m. simp (all-fails n f k m e)) (eq-or-lt_of_le (le_of_suc-le-suc l))

-- the test at all, from the test at each
pub all-make : (n : ℕ) (f : ℕ → Bool) → ((k : ℕ) → k < n → f k ≡ true) → all_below n f ≡ true
unfolding all_below
all-make zero f h = refl
all-make (suc n) f h = simp (all-make n f (λ k l. h k (omega arith)), h n (lt-suc_self n))

-- tests that agree at each number agree at all
pub all_same : (n : ℕ) (f g : ℕ → Bool) → ((k : ℕ) → k < n → f k ≡ g k) → all_below n f ≡ all_below n g
unfolding all_below
all_same zero f g h = refl
all_same (suc n) f g h = simp (all_same n f g (λ k l. h k (omega arith)), h n (lt-suc_self n))

-- a loop that has passed all of them
pub all_done : (n k : ℕ) (f : ℕ → Bool) → k ≤ n → n ≤ k → all_below k f ≡ true → all_below n f ≡ true
all_done n k f l m h = let q : k ≡ n = omega arith in rw q at h

-- a loop that stops at a number whose test fails
pub all_stop : (n : ℕ) (f : ℕ → Bool) (k : ℕ) (r : Bool) → k < n → r ≡ f k → not r ≡ true → false ≡ all_below n f
all_stop n f k true l e h = absurd (true≢false (sym h))
all_stop n f k false l e h = sym (all-fails n f k l (sym e))

-- the laws that a loop over a test goes by: before the first number, one more, all passed
pub ruleset all_loop = (all_none, all_more, all-next, all_done)
