-- A run of whole words that is wholly free, or wholly held, word by word. Assumes nothing.
use Rattle.std.specs.Prelude.{◌≡◌, false, List, ℕ, ◌+◌, ◌-◌, ◌*◌, ◌^◌, ◌<◌, ◌≤◌, eqb, get_or}
use Rattle.std.proofs.Common.{sym, ap, ◌∙◌, arith, ne_eqb}
use Rattle.std.specs.Int.Count.{ones, ones-ones}
use Rattle.rules.specs.Lower.{bit, held}
use Rattle.law_rules.specs.Sum.{sum-all, sum-zero, one_at, zero-at, sum-none}
use Rattle.law_rules.specs.Held.{bit_le, held_whole, held_more}
use Rattle.law_rules.specs.Ones.{ones_none, ones-zero}

-- a part of a range that is wholly free, or wholly held
pub free-part-of : (ws : List ℕ) (a n b k : ℕ) → held ws a n ≡ 0 → a ≤ b → b + k ≤ a + n → held ws b k ≡ 0
unfolding held
free-part-of ws a n b k z l m = sum-zero (bit ws) b k (λ g r s. zero-at (bit ws) a n z g (omega arith) (omega arith))

pub held-part-of : (ws : List ℕ) (a n b k : ℕ) → held ws a n ≡ n → a ≤ b → b + k ≤ a + n → held ws b k ≡ k
unfolding held
held-part-of ws a n b k z l m = sum-all (bit ws) b k (λ g r s. one_at (bit ws) a n (bit_le ws) z g (omega arith) (omega arith))

-- no word yet
pub run_none : (ws : List ℕ) (a : ℕ) → held ws a 0 ≡ 0
unfolding held
run_none ws a = sum-none (bit ws) a

-- a word that is not 0: the run is not wholly free
pub held-some : (ws : List ℕ) (at n i : ℕ) → i < n → get_or ws (at + i) 0 < 2 ^ 64 → (get_or ws (at + i) 0 ≡ 0 → ⊥) → eqb (held ws (at * 64) (n * 64)) 0 ≡ false
held-some ws at n i l h f = ne_eqb _ _ (λ z.
    let e : held ws ((at + i) * 64) 64 ≡ 0 = free-part-of ws (at * 64) (n * 64) ((at + i) * 64) 64 z (omega arith) (omega arith) in
    f (ones_none 64 _ h (sym (held_whole ws (at + i) h) ∙ e)))

-- one word more
pub zero_more : (ws : List ℕ) (at i : ℕ) → held ws (at * 64) (i * 64) ≡ 0 → get_or ws (at + i) 0 ≡ 0 → held ws (at * 64) ((i + 1) * 64) ≡ 0
zero_more ws at i e z =
    let o : ones (get_or ws (at + i) 0) ≡ 0 = ap ones z ∙ ones-zero in
    omega (arith, held_more ws at i (omega arith))

pub full-more : (ws : List ℕ) (at i : ℕ) → held ws (at * 64) (i * 64) ≡ i * 64 → get_or ws (at + i) 0 ≡ 2 ^ 64 - 1 → held ws (at * 64) ((i + 1) * 64) ≡ (i + 1) * 64
full-more ws at i e z =
    let o : ones (get_or ws (at + i) 0) ≡ 64 = ap ones z ∙ ones-ones 64 in
    omega (arith, held_more ws at i (omega arith))
