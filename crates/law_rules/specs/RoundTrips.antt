-- Round trips of tree and local words, and the bounds of their fields. Assumes nothing.
use Rattle.std.specs.Prelude.{◌≡◌, refl, Bool, true, false, List, ℕ, ◌+◌, ◌*◌, ◌/◌, ◌%◌, ◌^◌, ◌<◌, ◌≤◌, length, get_or}
use Rattle.std.proofs.Common.{mod-eq_of_lt, arith}
use Rattle.std.proofs.Math.Decide.{dec_lt}
use Rattle.std.proofs.Math.ListN.{get_or-eq_default}
use Rattle.rules.specs.Base.{bit_of}
use Rattle.rules.specs.Words.{tree_of, tree_word, local_of, local_word, entry, local_at}
use Rattle.rules.specs.Locals.{reservation}

-- a tree word whose fields fit their bits is stored exactly
pub tree-word : (f : ℕ) (r : Bool) (k : ℕ) → f < 2 ^ 28 → k < 8 → tree_of (tree_word (entry f r k)) ≡ entry f r k
unfolding tree_of tree_word
tree-word f true k hf hk =
    let x : f % 2 ^ 28 ≡ f = mod-eq_of_lt hf in
    let y : k % 8 ≡ k = mod-eq_of_lt hk in
    let a : (f + 2 ^ 28 + 2 ^ 29 * k) % 2 ^ 28 ≡ f = omega arith in
    let q : (f + 2 ^ 28 + 2 ^ 29 * k) / 2 ^ 28 ≡ 1 + 2 * k = omega arith in
    let b : (1 + 2 * k) % 2 ≡ 1 = omega arith in
    let d : (f + 2 ^ 28 + 2 ^ 29 * k) / 2 ^ 29 ≡ k = omega arith in
    rw (x, y, a, q, b, d)
tree-word f false k hf hk =
    let x : f % 2 ^ 28 ≡ f = mod-eq_of_lt hf in
    let y : k % 8 ≡ k = mod-eq_of_lt hk in
    let a : (f + 0 + 2 ^ 29 * k) % 2 ^ 28 ≡ f = omega arith in
    let q : (f + 0 + 2 ^ 29 * k) / 2 ^ 28 ≡ 2 * k = omega arith in
    let b : 2 * k % 2 ≡ 0 = omega arith in
    let d : (f + 0 + 2 ^ 29 * k) / 2 ^ 29 ≡ k = omega arith in
    rw (x, y, a, q, b, d)

-- a present local whose fields fit their bits is stored exactly
pub local-word : (row free : ℕ) → row < 2 ^ 44 → free < 2 ^ 19 → local_of (local_word (reservation row free)) ≡ reservation row free
unfolding local_of local_word
local-word row free hr hf =
    let a : row % 2 ^ 44 ≡ row = mod-eq_of_lt hr in
    let b : free % 2 ^ 19 ≡ free = mod-eq_of_lt hf in
    let x : (row + 2 ^ 44 * free + 2 ^ 63) % 2 ^ 44 ≡ row = omega arith in
    let q : (row + 2 ^ 44 * free + 2 ^ 63) / 2 ^ 44 ≡ free + 2 ^ 19 = omega arith in
    let y : (free + 2 ^ 19) % 2 ^ 19 ≡ free = omega arith in
    let z : (row + 2 ^ 44 * free + 2 ^ 63) / 2 ^ 63 ≡ 1 = omega arith in
    rw (a, b, x, q, y, z)

-- the word 0 is an absent local
pub absent-word : (local_of 0).present ≡ false
unfolding local_of
absent-word = refl

pub row_lt : (w : ℕ) → (local_of w).row < 2 ^ 44
unfolding local_of
row_lt w = omega arith

-- a present local is one of the lent words
pub present-lt : (ls : List ℕ) (j : ℕ) → (local_at ls j).present ≡ true → j < length ls
unfolding local_of
present-lt ls j p = go (dec_lt j (length ls))
  where
    go : Dec (j < length ls) → j < length ls
    go (yes h) = h
    go (no h) =
        let z : get_or ls j 0 ≡ 0 = get_or-eq_default ls 0 (omega arith) in
        let q : false ≡ true = rw z at p in
        absurd (let y : ◌≡◌ {A = ℕ} 0 1 = cc in omega arith)

-- 1 or 0
pub bit-true : (b : Bool) → bit_of b ≡ 1 → b ≡ true
bit-true true e = refl
bit-true false e = absurd (omega arith)

pub bit_of-le : (b : Bool) → bit_of b ≤ 1
bit_of-le true = omega arith
bit_of-le false = omega arith

pub bit-false : (b : Bool) → bit_of b ≡ 0 → b ≡ false
bit-false true e = absurd (omega arith)
bit-false false e = refl
