-- Laws of the words of a start: a part's share of the first frames, and the words that it makes. Assumes nothing.
use Rattle.std.specs.Prelude.{◌≡◌, refl, ℕ, zero, suc, ◌+◌, ◌-◌, ◌*◌, ◌/◌, ◌%◌, ◌^◌, ◌<◌, ◌≤◌}
use Rattle.std.proofs.Common.{sym, mul-le-mul_right, arith, pow_pos, le-leb}
use Rattle.std.proofs.Math.Pow.{pow-lt}
use Rattle.std.proofs.lemmas.Bool.{lt-leb}
use Rattle.law_rules.specs.Power.{one_shl}
use Rattle.rules_calls.specs.Calls.{at_most, fresh_tree, fresh_word}

-- ---- a part's share of the first frames

-- a part's first frame
pub part-lt : (m i : ℕ) → m ≤ 2048 → i < 2 ^ 32 → m * i < 2 ^ 44
part-lt m i l h = let g : m * i ≤ 2048 * i = mul-le-mul_right i l in omega arith

-- none of them
pub share-none : (m f b : ℕ) → f < b → 0 ≡ at_most m (f - b)
share-none m f b l = let e : f - b ≡ 0 = omega arith in rw e (least m)
  where
    least : (m : ℕ) → 0 ≡ at_most m 0
    least zero = refl
    least (suc m) = rw (lt-leb (suc m) 0 (omega arith))

-- all of the part
pub share-all : (m x : ℕ) → m ≤ x → m ≡ at_most m x
share-all m x l = rw (le-leb m x l)

-- what is left
pub share-left : (m x : ℕ) → x < m → x ≡ at_most m x
share-left m x l = rw (lt-leb m x l)

-- a part that ends before frame f has all its frames below it, one that begins at f or past it none
pub part-full : (m f i : ℕ) → m * i + m ≤ f → at_most m (f - m * i) ≡ m
part-full m f i l = sym (share-all m (f - m * i) (omega arith))

pub part_none : (m f i : ℕ) → f ≤ m * i → at_most m (f - m * i) ≡ at_most m 0
part_none m f i l = let e : f - m * i ≡ 0 = omega arith in rw e

-- the words of a start: of a tree and of a bitmap word before the one that frame f is in, and past it
module _ (f i : ℕ) where
  pub tree-full : (d : ℕ) → i < f / 2048 → fresh_tree 11 d 2048 0 ≡ fresh_tree 11 d f i
  unfolding fresh_tree
  tree-full d l = rw (part-full 2048 f i (omega arith))

  pub tree-held : (d : ℕ) → f / 2048 < i → fresh_tree 11 d 0 0 ≡ fresh_tree 11 d f i
  unfolding fresh_tree
  tree-held d l = rw (part_none 2048 f i (omega arith))

  pub word-free : i < f / 64 → 0 ≡ fresh_word f i
  unfolding fresh_word
  word-free l = rw (part-full 64 f i (omega arith))

  pub word_held : f / 64 < i → 2 ^ 64 - 1 ≡ fresh_word f i
  unfolding fresh_word
  word_held l = rw (part_none 64 f i (omega arith))

-- ---- a bitmap word with n frames free

module _ (n : ℕ) (h : n < 64) where
  pub shl-some : 1 ≤ 1 * 2 ^ n % 2 ^ 64
  shl-some = rw (one_shl n h) (pow_pos n)

  pub word-part : 2 ^ 64 - 1 - (1 * 2 ^ n % 2 ^ 64 - 1) ≡ 2 ^ 64 - 2 ^ n
  word-part = let l : 2 ^ n < 2 ^ 64 = pow-lt {i = n} {j = 64} h in let p : 0 < 2 ^ n = pow_pos n in rw (one_shl n h) (omega arith)
