-- A part of a take from the own local as a definition of its own: asking at its row. Its ways. Assumes nothing.
use Rattle.std.specs.Prelude.{◌≡◌, List, ℕ, ◌+◌, ◌/◌, Option, Some, None}
use Rattle.rules.specs.Base.{out}
use Rattle.rules.specs.Words.{Config, tree_rows}
use Rattle.rules.specs.Entries.{entry_put}
use Rattle.rules.specs.Locals.{local_row}
use Rattle.rules.specs.Lower.{lower_get}
use Rattle.rules.specs.declared.Request.{Request}
use Rattle.rules_calls.specs.State.{State, Way, st, size, done, missed_at, on_found, put_entry, set_row, with_locals, with_trees, with_try}

-- the local in slot j has paid at its row: the lower is asked there, and the found frame's row stored; if it refuses, the frames go to the tree's entry
unfoldable pub at_row : Config → Request → Option ℕ → ℕ → ℕ → State → Way
at_row c q name j row s =
    on_found (lower_get c.tree_order s.bits row q.order name) s
    (λ f s1. done f q.class (set_row j (f / 64) s1))
    (λ s1. missed_at (row / tree_rows c.tree_order) (put_entry c (row / tree_rows c.tree_order) (size q) s1))

-- by the lower's answer: a frame, whose row is stored, or none
module _ (c : Config) (q : Request) (name : Option ℕ) (j row : ℕ) (s : State) {w : Way} {x : Option ℕ} {bs : List ℕ}
    (asked : out x bs ≡ lower_get c.tree_order s.bits row q.order name) where
  pub row-found : {f : ℕ} {ls : List ℕ} → x ≡ Some f → ls ≡ local_row s.locals j (f / 64)
      → w ≡ done f q.class (st s.trees ls bs s.looks (s.tries + 1)) → w ≡ at_row c q name j row s
  unfolding at_row on_found set_row with_locals with_try
  row-found e stored h = rw (← asked, e, ← stored) h

  pub row-refused : {n : ℕ} {ts : List ℕ} → x ≡ None → n ≡ size q → ts ≡ entry_put c s.trees (row / tree_rows c.tree_order) n
      → w ≡ missed_at (row / tree_rows c.tree_order) (st ts s.locals bs s.looks (s.tries + 1)) → w ≡ at_row c q name j row s
  unfolding at_row on_found put_entry with_trees with_try
  row-refused e much paid h = rw (← asked, e, ← much, ← paid) h
