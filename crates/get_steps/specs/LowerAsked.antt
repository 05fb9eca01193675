-- The lower asked once, by its answer: laws of `ask_lower`. Assumes nothing.
use Rattle.std.specs.Prelude.{◌≡◌, List, ℕ, ◌+◌, Option, Some, None}
use Rattle.rules.specs.Base.{out}
use Rattle.rules.specs.Words.{Config}
use Rattle.rules.specs.Entries.{entry_put}
use Rattle.rules.specs.Lower.{lower_get}
use Rattle.rules.specs.declared.Request.{Request}
use Rattle.rules_calls.specs.State.{State, Way, st, size, done, missed, on_found, put_entry, with_trees, with_try, ask_lower}

module _ (c : Config) (q : Request) (name : Option ℕ) (t row k : ℕ) (s : State) {w : Way} {x : Option ℕ} {bs : List ℕ}
    (asked : out x bs ≡ lower_get c.tree_order s.bits row q.order name) where
  pub lower-found : {f : ℕ} → x ≡ Some f → w ≡ done f k (st s.trees s.locals bs s.looks (s.tries + 1)) → w ≡ ask_lower c q name t row k s
  unfolding ask_lower on_found with_try
  lower-found e h = rw (← asked, e) h

  pub lower-refused : {n : ℕ} {ts : List ℕ} → x ≡ None → n ≡ size q → ts ≡ entry_put c s.trees t n
      → w ≡ missed (st ts s.locals bs s.looks (s.tries + 1)) → w ≡ ask_lower c q name t row k s
  unfolding ask_lower on_found put_entry with_trees with_try
  lower-refused e much paid h = rw (← asked, e, ← much, ← paid) h
