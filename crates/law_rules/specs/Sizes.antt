-- The arithmetic of the tree order z, from 6 to 18: all that is known of products with and quotients by a tree's frames and rows. Assumes nothing.
use Rattle.std.specs.Prelude.{◌≡◌}
use Rattle.std.proofs.Common.{ap, ◌∙◌, mul_left_comm, mul-le-mul_right, div-lt_iff_lt-mul, le-div_iff_mul-le, pow_mono, pow-add, shr-shr}
use Prim.Native.Nat.{ℕ, suc, ◌+◌, ◌-◌, ◌*◌, ◌/◌, ◌^◌, ◌<◌, ◌≤◌}
use Rattle.std.proofs.Math.Nat.{mul_comm, suc-mul, mod-lt, div-add-mod, div-mul-le_self}
use native.Mathlib.Omega.{arith}
use Rattle.std.proofs.Math.Pow.{pow_pos}
use Rattle.std.proofs.lemmas.Nat.{shl-shr}
use Rattle.rules.specs.Words.{tree_frames, tree_rows, tree_count}

-- a tree order for which the laws hold: rows of 64 frames at least, and a tree's frames fit the 19 bits of a local's free
pub record Size (z : ℕ) : Type 0 where
  pub least : 6 ≤ z
  pub most : z ≤ 18

-- order 11 is one
pub size-eleven : Size 11
size-eleven = record { least = omega arith; most = omega arith }

module _ (z : ℕ) (sz : Size z) where
  pub frames-rows : tree_frames z ≡ 64 * tree_rows z
  frames-rows = let e : z ≡ 6 + (z - 6) = omega (arith, sz.least) in ap (λ (x : ℕ). 2 ^ x) e ∙ pow-add 2 6 (z - 6)

  pub frames-le : tree_frames z ≤ 262144
  frames-le = pow_mono {i = z} {j = 18} sz.most

  -- t trees are 64 × t × rows frames
  pub trees-frames : (t : ℕ) → t * tree_frames z ≡ 64 * (t * tree_rows z)
  trees-frames t = ap (λ (x : ℕ). t * x) frames-rows ∙ mul_left_comm t 64 (tree_rows z)

  -- the tree of a frame's row is the frame's tree
  pub row_of : (f : ℕ) → f / 64 / tree_rows z ≡ f / tree_frames z
  row_of f = let e : 6 + (z - 6) ≡ z = omega (arith, sz.least) in shr-shr f 6 (z - 6) ∙ ap (λ (x : ℕ). f / 2 ^ x) e

  -- the tree of a tree's first row
  pub first-row : (t : ℕ) → t * tree_rows z / tree_rows z ≡ t
  first-row t = shl-shr t (z - 6)

  -- one tree after another
  pub next-tree : (i t : ℕ) → i < t → i * tree_frames z + tree_frames z ≤ t * tree_frames z
  next-tree i t h =
      let a : suc i * tree_frames z ≤ t * tree_frames z = mul-le-mul_right (tree_frames z) h in
      omega (arith, a, suc-mul i (tree_frames z))

  -- the tree of a frame between a tree's first and last
  pub tree-of : (t f : ℕ) → t * tree_frames z ≤ f → f < t * tree_frames z + tree_frames z → f / tree_frames z ≡ t
  tree-of t f l m =
      let a : t ≤ f / tree_frames z = (le-div_iff_mul-le {k = tree_frames z} {x = t} {y = f} (pow_pos z)).1 l in
      let b : f / tree_frames z < suc t = (div-lt_iff_lt-mul {k = tree_frames z} {x = f} {y = suc t} (pow_pos z)).1 (omega (arith, m, suc-mul t (tree_frames z))) in
      omega arith

  -- a row fits its 44 bits
  pub row_small : (f n : ℕ) → f ≤ n → n ≤ 1024 * tree_frames z → f / 64 < 2 ^ 44
  row_small f n a b = omega (arith, a, b, frames-le)

  pub first_small : (t : ℕ) → t < 1024 → t * tree_rows z < 2 ^ 44
  first_small t h =
      let a : t * tree_rows z ≤ 1024 * tree_rows z = mul-le-mul_right (tree_rows z) (omega arith) in
      omega (arith, a, frames-rows, frames-le)

  -- the tree of a frame below F exists
  pub tree-below : (f n : ℕ) → f < n → f / tree_frames z < tree_count z n
  unfolding tree_count
  tree-below f n a =
      (le-div_iff_mul-le {k = tree_frames z} {x = suc (f / tree_frames z)} {y = n + (tree_frames z - 1)} (pow_pos z)).1
      (omega (arith, a, pow_pos z, suc-mul (f / tree_frames z) (tree_frames z), div-mul-le_self f (tree_frames z)))

  -- F frames lie in the trees, and the bitmap has a bit for each
  pub count-frames : (n : ℕ) → n ≤ tree_count z n * tree_frames z
  unfolding tree_count
  count-frames n =
      omega (
        arith,
        mul_comm (tree_frames z) ((n + (tree_frames z - 1)) / tree_frames z),
        div-add-mod (n + (tree_frames z - 1)) (tree_frames z),
        mod-lt (n + (tree_frames z - 1)) (pow_pos z),
      )

  pub count_bits : (n : ℕ) → tree_count z n * tree_frames z ≡ tree_rows z * tree_count z n * 64
  count_bits n = omega (arith, trees-frames (tree_count z n), mul_comm (tree_rows z) (tree_count z n))
