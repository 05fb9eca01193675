-- The list of the best as the code has it: words, each a rating with its fullness, times 2^32, plus a tree, 0 past the last. Assumes nothing.
use Rattle.std.specs.Prelude.{◌≡◌, refl, List, [], ◌∷◌, ℕ, zero, suc, ◌+◌, ◌-◌, ◌/◌, ◌%◌, ◌^◌, ◌<◌, ◌≤◌, length, get_or, drop, replicate}
use Rattle.std.proofs.Common.{arith, add-one, drop-cons}
use Rattle.std.proofs.Math.Nat.{sub-zero}
use Rattle.rules_calls.specs.Walking.{Candidate, rated}

-- the list that words hold: the first m of them, up to the first 0
unfoldable pub list_of : ℕ → List ℕ → List Candidate
list_of zero ws = []
list_of (suc m) [] = []
list_of (suc m) (zero ∷ ws) = []
list_of (suc m) (suc w ∷ ws) = rated (suc w / 2 ^ 32) (suc w % 2 ^ 32) ∷ list_of m ws

-- no tree yet
pub list-empty : (m : ℕ) → list_of m (replicate 8 0) ≡ []
unfolding list_of
list-empty zero = refl
list-empty (suc m) = refl

-- the rest of the list, from place k on
unfoldable pub list_from : ℕ → ℕ → List ℕ → List Candidate
list_from k m ws = list_of (m - k) (drop k ws)

pub from_first : (m : ℕ) (ws : List ℕ) → list_from 0 m ws ≡ list_of m ws
unfolding list_from
from_first m ws = rw sub-zero

-- past the last place, or at a 0, it is empty
pub from_end : (k m : ℕ) (ws : List ℕ) → m ≤ k → list_from k m ws ≡ []
unfolding list_from list_of
from_end k m ws h = let e : m - k ≡ 0 = omega arith in rw e

pub from-none : (k m : ℕ) (ws : List ℕ) → k < m → m ≤ length ws → get_or ws k 0 ≡ 0 → list_from k m ws ≡ []
unfolding list_from list_of
from-none k m ws h l z =
    let e : m - k ≡ suc (m - (k + 1)) = omega arith in
    let b : k < length ws = omega arith in
    rw (e, drop-cons ws k 0 b, z)

-- else the tree at that place is the next
pub from_more : (k m : ℕ) (ws : List ℕ) → k < m → m ≤ length ws → (get_or ws k 0 ≡ 0 → ⊥)
    → list_from k m ws ≡ rated (get_or ws k 0 / 2 ^ 32) (get_or ws k 0 % 2 ^ 32) ∷ list_from (k + 1) m ws
unfolding list_from list_of
from_more k m ws h l z =
    let e : m - k ≡ suc (m - (k + 1)) = omega arith in
    let b : k < length ws = omega arith in
    rw (e, add-one k, drop-cons ws k 0 b) (go (get_or ws k 0) (m - suc k) (drop (suc k) ws) z)
  where
    go : (w d : ℕ) (xs : List ℕ) → (w ≡ 0 → ⊥) → list_of (suc d) (w ∷ xs) ≡ rated (w / 2 ^ 32) (w % 2 ^ 32) ∷ list_of d xs
    go zero d xs z = absurd (z refl)
    go (suc w) d xs z = refl
