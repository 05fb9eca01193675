-- By cases on two numbers: equal or not, below or not. Assumes nothing.
use Rattle.std.specs.Prelude.{◌≡◌, refl, Bool, true, false, ◌⊎◌, ℕ, ◌<◌, ◌≤◌, eqb, ltb}
use Rattle.std.proofs.Common.{inl, inr, ⊎_elim, arith, eqb-true, ltb-true, ltb-false}
use Rattle.std.proofs.lemmas.Bool.{eqb-false}

-- by whether two numbers are equal
pub by-eq : {X : Type 0} (a b : ℕ) → (a ≡ b → X) → ((a ≡ b → ⊥) → X) → X
by-eq {X} a b f g = go (eqb a b) refl
  where
    go : (t : Bool) → eqb a b ≡ t → X
    go true e = f (eqb-true a b e)
    go false e = g (eqb-false a b e)

-- by whether one is below the other
pub below_or : (x y : ℕ) → (x < y) ⊎ (y ≤ x)
below_or x y = go (ltb x y) refl
  where
    go : (t : Bool) → ltb x y ≡ t → (x < y) ⊎ (y ≤ x)
    go true e = inl (ltb-true x y e)
    go false e = inr (ltb-false x y e)

-- equal, where neither is below the other
pub neither-below : (x y : ℕ) → (x < y → ⊥) → (y < x → ⊥) → x ≡ y
neither-below x y f g = ⊎_elim (λ l. absurd (f l)) (λ l. ⊎_elim (λ m. absurd (g m)) (λ m. omega arith) (below_or y x)) (below_or x y)

-- by which of two different numbers is below the other
pub by_side : {X : Type 0} (a b : ℕ) → (a ≡ b → ⊥) → (a < b → X) → (b < a → X) → X
by_side a b ne f g = ⊎_elim f (λ l. g (omega arith)) (below_or a b)
