-- The number of trees of an accepted number of frames: 1 to 1,024. Assumes nothing.
use Rattle.std.specs.Prelude.{ℕ, ◌+◌, ◌-◌, ◌*◌, ◌/◌, ◌<◌, ◌≤◌}
use Rattle.std.proofs.Common.{div-lt_iff_lt-mul, le-div_iff_mul-le}
use native.Mathlib.Omega.{arith}
use Rattle.std.proofs.Math.Pow.{pow_pos}
use Rattle.rules.specs.Words.{tree_frames, tree_count}

module _ (z f : ℕ) where
  -- n is at least 1
  pub count-some : 1 ≤ f → 1 ≤ tree_count z f
  unfolding tree_count
  count-some h = (le-div_iff_mul-le {k = tree_frames z} {x = 1} {y = f + (tree_frames z - 1)} (pow_pos z)).1 (omega (arith, h, pow_pos z))

  -- n is at most 1,024
  pub count_most : f ≤ 1024 * tree_frames z → tree_count z f ≤ 1024
  unfolding tree_count
  count_most h =
      let l : (f + (tree_frames z - 1)) / tree_frames z < 1025
      = (div-lt_iff_lt-mul {k = tree_frames z} {x = f + (tree_frames z - 1)} {y = 1025} (pow_pos z)).1 (omega (arith, h, pow_pos z)) in
      omega arith
