-- Frames of one tree, by the answers of the steps: laws of `steal_global` and `reserve_or_steal`. Assumes nothing.
use Rattle.std.specs.Prelude.{◌≡◌, List, ℕ, ◌*◌, Option, Some, None}
use Rattle.rules.specs.Base.{out}
use Rattle.rules.specs.Words.{Config, tree_rows}
use Rattle.rules.specs.Entries.{entry_steal, entry_reserve}
use Rattle.rules.specs.declared.Request.{Request}
use Rattle.rules.specs.declared.Tree.{Tree}
use Rattle.rules.specs.declared.Taken.{Taken}
use Rattle.rules_calls.specs.State.{State, Way, st, size, missed, on_took, on_taken, with_trees, ask_lower}
use Rattle.rules_calls.specs.Walking.{steal_global, reserved_tree, reserve_or_steal}

module _ (c : Config) (q : Request) (t : ℕ) (s : State) {w : Way} {n : ℕ} {ts : List ℕ} where
  -- none; or the lower is asked at the first row of tree t, whose tree, u, is t
  module _ (name : Option ℕ) {x : Option Tree} (much : n ≡ size q) (took : out x ts ≡ entry_steal c s.trees t q.class n) where
    pub steal-none : x ≡ None → w ≡ missed (st ts s.locals s.bits s.looks s.tries) → w ≡ steal_global c q name t s
    unfolding steal_global on_took with_trees
    steal-none e h = rw (← much, ← took, e) h

    pub steal-asks : {a : Tree} {u : ℕ} → x ≡ Some a
        → w ≡ ask_lower c q name u (t * tree_rows c.tree_order) a.class (st ts s.locals s.bits s.looks s.tries) → u ≡ t → w ≡ steal_global c q name t s
    unfolding steal_global on_took with_trees
    steal-asks e h same = rw (← much, ← took, e) (rw same at h)

  -- none; a part, and the lower is asked as above; the whole tree
  module _ (j : ℕ) {x : Option Taken} (much : n ≡ size q) (took : out x ts ≡ entry_reserve c s.trees t q.class n) where
    pub reserve-none : x ≡ None → w ≡ missed (st ts s.locals s.bits s.looks s.tries) → w ≡ reserve_or_steal c q j t s
    unfolding reserve_or_steal on_taken with_trees
    reserve-none e h = rw (← much, ← took, e) h

    pub reserve-part : {a : Tree} {u : ℕ} → x ≡ Some (Taken.Part a)
        → w ≡ ask_lower c q None u (t * tree_rows c.tree_order) a.class (st ts s.locals s.bits s.looks s.tries) → u ≡ t → w ≡ reserve_or_steal c q j t s
    unfolding reserve_or_steal on_taken with_trees
    reserve-part e h same = rw (← much, ← took, e) (rw same at h)

    pub reserve-whole : {a : Tree} {old : ℕ} → x ≡ Some (Taken.Whole a old)
        → w ≡ reserved_tree c q j t old (st ts s.locals s.bits s.looks s.tries) → w ≡ reserve_or_steal c q j t s
    unfolding reserve_or_steal on_taken with_trees
    reserve-whole e h = rw (← much, ← took, e) h
