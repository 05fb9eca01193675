-- Free frames and free trees of the first trees and locals, as the loops make them: parts of the definitions of statistics. Assumes nothing.
use Rattle.std.specs.Prelude.{List, ℕ, ◌/◌}
use Rattle.rules.specs.Base.{sum}
use Rattle.rules.specs.Words.{tree_frames, entry_at, local_at}

-- the free of the first n entries
unfoldable pub entries_free : List ℕ → ℕ → ℕ
entries_free ts n = sum (λ t. (entry_at ts t).free) 0 n

-- and the free trees among them
unfoldable pub entries_whole : ℕ → List ℕ → ℕ → ℕ
entries_whole z ts n = sum (λ t. (entry_at ts t).free / tree_frames z) 0 n

-- the free of the first n locals
unfoldable pub locals_free : List ℕ → ℕ → ℕ
locals_free ls n = sum (λ j. (local_at ls j).free) 0 n

-- and the free trees among them
unfoldable pub locals_whole : ℕ → List ℕ → ℕ → ℕ
locals_whole z ls n = sum (λ j. (local_at ls j).free / tree_frames z) 0 n
