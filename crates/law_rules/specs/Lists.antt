-- Lists by index: a listed function, one word stored, and the sum over a list's words. Assumes nothing.
use Rattle.std.specs.Prelude.{◌≡◌, refl, List, ℕ, zero, suc, ◌+◌, ◌<◌, length, get_or, set}
use Rattle.std.proofs.Common.{sym, ap, ◌∙◌, add-zero, not-suc-le-zero, le_of_suc-le-suc, arith, get_or-set_same, get_or-set_other}
use Rattle.rules.specs.Base.{sum, listed}
use Rattle.law_rules.specs.SumTerms.{sum-change}

pub length-listed : (f : ℕ → ℕ) (a n : ℕ) → length (listed f a n) ≡ n
unfolding listed
length-listed f a zero = refl
length-listed f a (suc n) = ap suc (length-listed f (suc a) n)

pub get_or-listed : (f : ℕ → ℕ) (a n i d : ℕ) → i < n → get_or (listed f a n) i d ≡ f (a + i)
unfolding listed
get_or-listed f a zero i d h = absurd (not-suc-le-zero h)
get_or-listed f a (suc n) zero d h = ap f (sym (add-zero a))
get_or-listed f a (suc n) (suc i) d h = get_or-listed f (suc a) n i d (le_of_suc-le-suc h) ∙ ap f (let e : suc a + i ≡ a + suc i = omega arith in e)

-- a sum over a list, one word of which is stored
pub sum-set : (g : ℕ → ℕ) (ls : List ℕ) (j x n : ℕ) → j < length ls → j < n → sum (λ i. g (get_or (set ls j x) i 0)) 0 n + g (get_or ls j 0) ≡ sum (λ i. g (get_or ls i 0)) 0 n + g x
sum-set g ls j x n l m =
    sum-change (λ i. g (get_or ls i 0)) (λ i. g (get_or (set ls j x) i 0)) 0 n j (omega arith) (omega arith) (λ i ne. ap g (sym (get_or-set_other ls j i x 0 ne)))
    ∙ ap (λ (y : ℕ). sum (λ i. g (get_or ls i 0)) 0 n + g y) (get_or-set_same ls j x 0 l)
