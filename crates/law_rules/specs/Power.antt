-- Powers of two as the code makes them, and where an aligned block lies. Assumes nothing.
use Rattle.std.proofs.Common.{lit<, sym, ap, ◌∙◌, one-mul, mul_assoc, mul-add, add-mul, mul-le-mul_right, mod-lt, pow-suc, arith, shl_exact, shr-shr, pow_pos, pow_mono, pow-add}
use Rattle.std.specs.Prelude.{◌≡◌, ℕ, zero, suc, ◌+◌, ◌-◌, ◌*◌, ◌/◌, ◌%◌, ◌^◌, ◌<◌, ◌≤◌}
use Rattle.std.proofs.lemmas.Nat.{shl-shr}
use Rattle.std.proofs.Math.Pow.{split}

-- `1 << k` at 64 bits
pub one_shl : (k : ℕ) → k < 64 → (1 * 2 ^ k) % 2 ^ 64 ≡ 2 ^ k
one_shl k h = shl_exact 1 k 64 (lit< tt) (omega arith) ∙ one-mul (2 ^ k)

-- 2^z in two parts
pub pow-part : (z o : ℕ) → o ≤ z → 2 ^ z ≡ 2 ^ (z - o) * 2 ^ o
pow-part z o h = let e : (z - o) + o ≡ z = omega arith in ap (λ (x : ℕ). 2 ^ x) (sym e) ∙ pow-add 2 (z - o) o

-- the words of a tree have its frames
pub tree-words : (z : ℕ) → 6 ≤ z → 2 ^ z ≡ 2 ^ (z - 6) * 64
tree-words z h = pow-part z 6 h

-- 2^o is twice 2^(o - 1)
pub pow-half : (j k : ℕ) → j ≡ suc k → 2 ^ j ≡ 2 ^ k + 2 ^ k
pow-half j k e = let p : 2 ^ suc k ≡ 2 ^ k * 2 = pow-suc 2 k in ap (λ (x : ℕ). 2 ^ x) e ∙ omega arith

-- block j of m = 2 n frames is the blocks 2 j and 2 j + 1 of n frames
pub double : (j m n : ℕ) → m ≡ n + n → (j * m ≡ j * 2 * n) × ((j * 2 + 1) * n ≡ j * 2 * n + n)
double j m n e =
    let a : j * m ≡ j * n + j * n = ap (λ (x : ℕ). j * x) e ∙ mul-add j n n in
    let z : j * 2 ≡ j + j = omega arith in
    let b : j * 2 * n ≡ j * n + j * n = ap (λ (x : ℕ). x * n) z ∙ add-mul j j n in
    let c : (j * 2 + 1) * n ≡ j * 2 * n + 1 * n = add-mul (j * 2) 1 n in
    (a ∙ sym b, c ∙ omega arith)

-- a block of a small order lies in a word
pub in-word : (o j : ℕ) → o < 6 → j * 2 ^ o % 64 + 2 ^ o ≤ 64
in-word zero j h = omega arith
in-word (suc zero) j h = omega arith
in-word (suc (suc zero)) j h = omega arith
in-word (suc (suc (suc zero))) j h = omega arith
in-word (suc (suc (suc (suc zero)))) j h = omega arith
in-word (suc (suc (suc (suc (suc zero))))) j h = omega arith
in-word (suc (suc (suc (suc (suc (suc o)))))) j h = absurd (omega arith)

-- one of a large order is whole words
pub record Whole (b n : ℕ) : Type 0 where
  pub start : b / 64 * 64 ≡ b
  pub words : n / 64 * 64 ≡ n

pub whole : (o j : ℕ) → 6 ≤ o → Whole (j * 2 ^ o) (2 ^ o)
whole o j g =
    let p : 2 ^ o ≡ 2 ^ (o - 6) * 64 = tree-words o g in
    let q : j * 2 ^ o ≡ j * 2 ^ (o - 6) * 64 = ap (λ (x : ℕ). j * x) p ∙ sym (mul_assoc j (2 ^ (o - 6)) 64) in
    record { start = omega arith; words = omega arith }

-- the blocks of order o from the first of block i of order z: they lie in it
pub record Inside (z o i j : ℕ) : Type 0 where
  pub low : i * 2 ^ z ≤ j * 2 ^ o
  pub high : j * 2 ^ o + 2 ^ o ≤ i * 2 ^ z + 2 ^ z

pub inside : (z o i j : ℕ) → o ≤ z → i * 2 ^ (z - o) ≤ j → j < i * 2 ^ (z - o) + 2 ^ (z - o) → Inside z o i j
inside z o i j h l m =
    let k : ℕ = z - o in
    let p : 2 ^ z ≡ 2 ^ k * 2 ^ o = pow-part z o h in
    let a : i * 2 ^ k * 2 ^ o ≤ j * 2 ^ o = mul-le-mul_right (2 ^ o) l in
    let b : suc j * 2 ^ o ≤ (i * 2 ^ k + 2 ^ k) * 2 ^ o = mul-le-mul_right (2 ^ o) m in
    let c : i * 2 ^ k * 2 ^ o ≡ i * 2 ^ z = mul_assoc i (2 ^ k) (2 ^ o) ∙ ap (λ (x : ℕ). i * x) (sym p) in
    let d : (i * 2 ^ k + 2 ^ k) * 2 ^ o ≡ i * 2 ^ k * 2 ^ o + 2 ^ k * 2 ^ o = add-mul (i * 2 ^ k) (2 ^ k) (2 ^ o) in
    let s : suc j ≡ j + 1 = omega arith in
    let f : suc j * 2 ^ o ≡ j * 2 ^ o + 1 * 2 ^ o = ap (λ (x : ℕ). x * 2 ^ o) s ∙ add-mul j 1 (2 ^ o) in
    record { low = omega arith; high = omega arith }

-- the block of order o that holds frame f, among those of the block of order z that holds it
pub record Among (z o f : ℕ) : Type 0 where
  pub low : f / 2 ^ z * 2 ^ (z - o) ≤ f / 2 ^ o
  pub high : f / 2 ^ o < f / 2 ^ z * 2 ^ (z - o) + 2 ^ (z - o)
  pub up : f / 2 ^ o / 2 ^ (z - o) ≡ f / 2 ^ z

pub among : (z o f : ℕ) → o ≤ z → Among z o f
among z o f h =
    let k : ℕ = z - o in
    let q : o + k ≡ z = omega arith in
    let s : f / 2 ^ o / 2 ^ k ≡ f / 2 ^ z = shr-shr f o k ∙ ap (λ (x : ℕ). f / 2 ^ x) q in
    let d : f / 2 ^ o / 2 ^ k * 2 ^ k + f / 2 ^ o % 2 ^ k ≡ f / 2 ^ o = split (f / 2 ^ o) k in
    let m : f / 2 ^ o % 2 ^ k < 2 ^ k = mod-lt (f / 2 ^ o) (pow_pos k) in
    let e : f / 2 ^ o / 2 ^ k * 2 ^ k ≡ f / 2 ^ z * 2 ^ k = ap (λ (x : ℕ). x * 2 ^ k) s in
    record { low = omega arith; high = omega arith; up = s }

-- an aligned block lies in the tree of each of its frames
pub in_tree : (z o f : ℕ) → o ≤ z → Inside z o (f / 2 ^ z) (f / 2 ^ o)
in_tree z o f h = let a = among z o f h in inside z o (f / 2 ^ z) (f / 2 ^ o) h a.low a.high

-- 2^o for the orders that there are
pub at-most : (o z : ℕ) → o ≤ z → (1 ≤ 2 ^ o) × (2 ^ o ≤ 2 ^ z)
at-most o z h = (pow_pos o, pow_mono {i = o} {j = z} h)

-- the block of order o that holds the first frame of a row
pub row-tree : (o row : ℕ) → 6 ≤ o → row * 64 / 2 ^ o ≡ row / 2 ^ (o - 6)
row-tree o row h =
    let e : 6 + (o - 6) ≡ o = omega arith in
    let a : row * 64 / 64 ≡ row = omega arith in
    ap (λ (x : ℕ). row * 64 / 2 ^ x) (sym e) ∙ sym (shr-shr (row * 64) 6 (o - 6)) ∙ ap (λ (x : ℕ). x / 2 ^ (o - 6)) a

pub row_up : (o w row : ℕ) → 6 ≤ o → w ≤ o → row * 64 / 2 ^ w / 2 ^ (o - w) ≡ row / 2 ^ (o - 6)
row_up o w row g h = (among o w (row * 64) h).up ∙ row-tree o row g

-- a row's first block of a small order
pub row_block : (w row : ℕ) → w ≤ 6 → row * 64 / 2 ^ w ≡ row * 2 ^ (6 - w)
row_block w row h =
    let p : 64 ≡ 2 ^ (6 - w) * 2 ^ w = pow-part 6 w h in
    ap (λ (x : ℕ). row * x / 2 ^ w) p ∙ ap (λ (x : ℕ). x / 2 ^ w) (sym (mul_assoc row (2 ^ (6 - w)) (2 ^ w))) ∙ shl-shr (row * 2 ^ (6 - w)) w

pub row_first : (w row i : ℕ) → w ≤ 6 → row ≤ i → row * 64 / 2 ^ w ≤ i * 2 ^ (6 - w)
row_first w row i h l = let m : row * 2 ^ (6 - w) ≤ i * 2 ^ (6 - w) = mul-le-mul_right (2 ^ (6 - w)) l in omega (arith, row_block w row h)

-- and of the first row of tree t
pub tree-first : (z o t : ℕ) → 6 ≤ z → o ≤ z → t * 2 ^ (z - 6) * 64 / 2 ^ o ≤ t * 2 ^ (z - o)
tree-first z o t g h =
    let a : t * 2 ^ (z - 6) * 64 ≡ t * 2 ^ z = mul_assoc t (2 ^ (z - 6)) 64 ∙ ap (λ (x : ℕ). t * x) (sym (tree-words z g)) in
    let b : t * 2 ^ z ≡ t * 2 ^ (z - o) * 2 ^ o = ap (λ (x : ℕ). t * x) (pow-part z o h) ∙ sym (mul_assoc t (2 ^ (z - o)) (2 ^ o)) in
    let c : t * 2 ^ (z - 6) * 64 / 2 ^ o ≡ t * 2 ^ (z - o) = ap (λ (x : ℕ). x / 2 ^ o) (a ∙ b) ∙ shl-shr (t * 2 ^ (z - o)) o in
    omega arith
