-- A store past the end of lent words changes nothing. Assumes nothing.
use Rattle.std.specs.Prelude.{◌≡◌, refl, List, [], ◌∷◌, ℕ, zero, suc, ◌≤◌, length, set}
use Rattle.std.proofs.Common.{ap, le_of_suc-le-suc, not-suc-le-zero}

pub set_past : {A : Type 0} (l : List A) (i : ℕ) (v : A) → length l ≤ i → set l i v ≡ l
set_past [] i v h = refl
set_past (x ∷ l) zero v h = absurd (not-suc-le-zero h)
set_past {A} (x ∷ l) (suc i) v h = ap (λ (m : List A). x ∷ m) (set_past l i v (le_of_suc-le-suc h))
