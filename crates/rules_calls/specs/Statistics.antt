-- 01, Statistics: eight tally rows, total free, free trees. Assumes nothing.
use Rattle.std.specs.Prelude.{List, [], ◌∷◌, ℕ, zero, suc, ◌+◌, ◌-◌, ◌*◌, ◌/◌, eqb, length, Result, Ok, Err}
use Rattle.rules.specs.Base.{pick, ifte, sum}
use Rattle.rules.specs.Words.{Config, tree_frames, trees_of, locals_of, slot, local_count, entry_at, local_at}
use Rattle.rules_calls.specs.declared.Tally.{Tally}
use Rattle.rules_calls.specs.declared.Totals.{Totals}
use Rattle.rules_calls.specs.Standing.{standing, tree_on}
use Rattle.rules_calls.specs.declared.Refusal.{Refusal}
use Rattle.rules_calls.specs.Calls.{number_of}

-- f summed over the trees whose entry has class k
unfoldable pub over_class : Config → List ℕ → ℕ → (ℕ → ℕ) → ℕ
over_class c ts k f = sum (λ t. pick (eqb (entry_at ts t).class k) (f t) 0) 0 (trees_of c)

-- entry free to the entry's class
unfoldable pub entry_free : Config → List ℕ → ℕ → ℕ
entry_free c ts k = over_class c ts k (λ t. (entry_at ts t).free)

-- local free to the local's class
unfoldable pub local_free : Config → List ℕ → ℕ → ℕ
local_free c ls k = sum (λ i. (local_at ls (slot c.places k i)).free) 0 (locals_of c.places k)

-- 2,048 − free to the entry's class
unfoldable pub entry_alloc : Config → List ℕ → ℕ → ℕ
entry_alloc c ts k = over_class c ts k (λ t. tree_frames c.tree_order - (entry_at ts t).free)

-- the free of the reservations on the trees of the class
unfoldable pub reserved_free : Config → List ℕ → List ℕ → ℕ → ℕ
reserved_free c ts ls k =
    sum (λ j. pick (local_at ls j).present (pick (eqb (entry_at ts (tree_on c.tree_order (local_at ls j))).class k) (local_at ls j).free 0) 0) 0 (local_count c.places)

-- added column, frames in use: 2,048 × trees of the class, less those entries' free, less the free of the reservations on them
unfoldable pub in_use : Config → List ℕ → List ℕ → ℕ → ℕ
in_use c ts ls k = tree_frames c.tree_order * over_class c ts k (λ t. 1) - entry_free c ts k - reserved_free c ts ls k

-- the row of class k
unfoldable pub tally : Config → List ℕ → List ℕ → ℕ → Tally
tally c ts ls k = record { free = entry_free c ts k + local_free c ls k; alloc = entry_alloc c ts k; used = in_use c ts ls k }

-- the rows of n classes from k on
unfoldable pub tallies : Config → List ℕ → List ℕ → ℕ → ℕ → List Tally
tallies c ts ls k zero = []
tallies c ts ls k (suc n) = tally c ts ls k ∷ tallies c ts ls (k + 1) n

-- total free sums entries and locals
unfoldable pub total_free : Config → List ℕ → List ℕ → ℕ
total_free c ts ls = sum (λ t. (entry_at ts t).free) 0 (trees_of c) + sum (λ j. (local_at ls j).free) 0 (local_count c.places)

-- free trees are each entry's and each local's free / 2,048, rounded down, then summed
unfoldable pub free_trees : Config → List ℕ → List ℕ → ℕ
free_trees c ts ls =
    sum (λ t. (entry_at ts t).free / tree_frames c.tree_order) 0 (trees_of c) + sum (λ j. (local_at ls j).free / tree_frames c.tree_order) 0 (local_count c.places)

-- what the call tells, and the lent rows after it
pub record Report : Type 0 where
  pub number : ℕ
  pub free : ℕ
  pub trees : ℕ
  pub rows : List Tally

-- number n, total free f, free trees t, and the rows
abbrev pub reporting : ℕ → ℕ → ℕ → List Tally → Report
reporting n f t rows = record { number = n; free = f; trees = t; rows = rows }

-- what the code's statistics answer and leave
abbrev pub told_totals : Result Totals Refusal → List Tally → Report
told_totals (Ok t) rows = reporting 0 t.free t.trees rows
told_totals (Err x) rows = reporting (number_of x) 0 0 rows

-- Broken, then Rows where the lent tally rows are not eight; a refused call returns zeros for both and leaves the rows
unfoldable pub statistics : Config → List ℕ → List ℕ → List ℕ → List Tally → Report
statistics c ts ls bs rows =
    ifte (standing c ts ls bs)
    (λ _. ifte (eqb (length rows) 8)
    (λ _. reporting 0 (total_free c ts ls) (free_trees c ts ls) (tallies c ts ls 0 8))
    (λ _. reporting 11 0 0 rows))
    (λ _. reporting 1 0 0 rows)
