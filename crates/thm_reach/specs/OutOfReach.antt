-- The free frames that are out of reach of a class, and when all are. Assumes nothing.
use Rattle.std.specs.Prelude.{◌≡◌, Bool, not, List, ℕ, ◌+◌, ◌<◌}
use Rattle.std.proofs.Math.Dec.{eqb}
use Rattle.rules.specs.Base.{pick, both, either, sum}
use Rattle.rules.specs.Words.{Config, trees_of, entry_at}
use Rattle.rules.specs.Policy.{kind_at}
use Rattle.rules_calls.specs.Statistics.{local_free}

-- Lends as a test
unfoldable pub lends : Config → ℕ → ℕ → Bool
lends c k e = either (eqb (kind_at c k e) 1) (either (eqb (kind_at c k e) 3) (both (eqb (kind_at c k e) 2) (not (eqb e k))))

-- the free frames that are out of reach of class k: in the entries of reserved trees and of trees that are Invalid for it, and in locals of classes that do not lend to it
unfoldable pub out_of_reach : Config → List ℕ → List ℕ → ℕ → ℕ
out_of_reach c ts ls k =
    sum (λ t. pick (entry_at ts t).reserved (entry_at ts t).free (pick (eqb (kind_at c k (entry_at ts t).class) 0) (entry_at ts t).free 0)) 0 (trees_of c)
    + sum (λ e. pick (lends c k e) 0 (local_free c ls e)) 0 8

-- every tree whose entry has a free frame is Invalid for class k
abbrev pub FreeTreesInvalid : Config → List ℕ → ℕ → Type 0
FreeTreesInvalid c ts k = (t : ℕ) → t < trees_of c → 0 < (entry_at ts t).free → kind_at c k (entry_at ts t).class ≡ 0
