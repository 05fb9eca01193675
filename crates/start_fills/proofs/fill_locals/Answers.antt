-- `start_fills::fill_locals` meets its contract: one fill. Assumes nothing.
use Rattle.std.proofs.Common.{◌≡◌, refl, ℕ, ◌∷◌, List, replicate, ap, ◌∙◌}
use Prim.Native.Nat.{zero, suc}
use Rattle.rules.specs.Base.{listed}
use Rattle.start_fills.proofs.fill_locals.Goals as goal

zeros : (a n : ℕ) → replicate n 0 ≡ listed (λ j. 0) a n
unfolding listed
zeros a zero = refl
zeros a (suc n) = ap (λ (xs : List ℕ). 0 ∷ xs) (zeros (suc a) n)

pub returns : goal.returns
returns c = c.fill.ensures.after (λ y e. e) ∙ zeros 0 _
