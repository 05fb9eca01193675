-- What a report says of the words that were lent to read, where they pass the standing rules. Assumes nothing.
use Rattle.std.specs.Prelude.{◌≡◌, List, [], ◌∷◌, length, get_or}
use Prim.Native.Nat.{ℕ, ◌+◌, ◌*◌, ◌<◌}
use Rattle.rules.specs.Words.{Config, tree_frames}
use Rattle.rules.specs.Lower.{held}
use Rattle.rules_calls.specs.declared.Tally.{Tally}
use Rattle.rules_calls.specs.Statistics.{over_class, Report}
use Rattle.thm_truth.specs.Truth.{free_frames}

-- the free of all rows
unfoldable pub free_of : List Tally → ℕ
free_of [] = 0
free_of (r ∷ rows) = r.free + free_of rows

-- what a report says of the words that were lent to read
pub record Truthful (c : Config) (ts ls bs : List ℕ) (r : Report) : Type 0 where
  -- Done
  pub number : r.number ≡ 0
  -- total free is the number of frames below F whose bit is 0
  pub free : r.free ≡ free_frames bs c.frames
  -- there are eight rows, and their free sums to it
  pub eight : length r.rows ≡ 8
  pub rows : free_of r.rows ≡ free_frames bs c.frames
  -- in use of a class: the frames of its trees whose bit is 1
  pub used : (k : ℕ) (d : Tally) → k < 8 → (get_or r.rows k d).used ≡ over_class c ts k (λ t. held bs (t * tree_frames c.tree_order) (tree_frames c.tree_order))
