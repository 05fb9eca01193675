-- A reservation that moves, by the answers of its steps: laws of `demote_to` and `demote_local`. Assumes nothing.
use Rattle.std.specs.Prelude.{◌≡◌, Bool, true, false, List, ℕ, ◌/◌, Option, Some, None}
use Rattle.rules.specs.Base.{out}
use Rattle.rules.specs.Words.{Config, tree_rows, slot, local_at}
use Rattle.rules.specs.Locals.{local_take, local_swap, local_clear, has_enough, demote_any}
use Rattle.rules.specs.declared.Local.{Local}
use Rattle.rules.specs.declared.Held.TheVariants as Held
use Rattle.rules.specs.declared.Payer.{Payer}
use Rattle.rules.specs.declared.Request.{Request}
use Rattle.rules_calls.specs.State.{State, Way, st, size, index_of, missed, stuck, on_held, on_swap, with_locals, with_trees, ask_lower}
use Rattle.rules_calls.specs.FromLocals.{demote_to, move_from, demote_local}
use Rattle.law_calls.specs.Payers.{demote-enough}
use Rattle.tree_returns.specs.Returned.{returned, returned_local, on_returned, unreserve-returned, local-returned}

module _ (c : Config) (q : Request) (name : Option ℕ) (s : State) {w : Way} where
  -- the reservation l is returned, or the one that it displaces
  module _ (l : Local) {g : Option ℕ} {b : Bool} {ts : List ℕ} where
    module _ {i j : ℕ} {old : Local} {ls : List ℕ} (given : g ≡ Some i) (place : j ≡ slot c.places q.class i)
        (swap : out old ls ≡ local_swap s.locals j l) (back : out b ts ≡ returned_local c old q.class s.trees) where
      pub displaced-stuck : b ≡ false → w ≡ stuck (st ts ls s.bits s.looks s.tries) → w ≡ demote_to c q name l g s
      unfolding demote_to on_swap on_returned with_trees with_locals
      displaced-stuck e h = rw (given, ← place, ← swap, local-returned _ _ _ _ _ _, ← back, e) h

      pub displaced : b ≡ true → w ≡ ask_lower c q name (l.row / tree_rows c.tree_order) l.row q.class (st ts ls s.bits s.looks s.tries)
          → w ≡ demote_to c q name l g s
      unfolding demote_to on_swap on_returned with_trees with_locals
      displaced e h = rw (given, ← place, ← swap, local-returned _ _ _ _ _ _, ← back, e) h

    module _ (none : g ≡ None) (back : out b ts ≡ returned c (l.row / tree_rows c.tree_order) q.class l.free s.trees) where
      pub itself-stuck : b ≡ false → w ≡ stuck (st ts s.locals s.bits s.looks s.tries) → w ≡ demote_to c q name l g s
      unfolding demote_to on_returned with_trees
      itself-stuck e h = rw (none, unreserve-returned _ _ _ _ _ _ _, ← back, e) h

      pub itself : b ≡ true → w ≡ ask_lower c q name (l.row / tree_rows c.tree_order) l.row q.class (st ts s.locals s.bits s.looks s.tries)
          → w ≡ demote_to c q name l g s
      unfolding demote_to on_returned with_trees
      itself e h = rw (none, unreserve-returned _ _ _ _ _ _ _, ← back, e) h

  -- nobody moves; the first with enough, is reduced and leaves its local
  module _ {i n : ℕ} {p : Option Payer} (from : i ≡ index_of q.local) (much : n ≡ size q) (first : p ≡ demote_any c s.locals q.class i name n) where
    pub nobody : p ≡ None → w ≡ missed s → w ≡ demote_local c q name s
    unfolding demote_local move_from
    nobody e h = rw (← from, ← much, ← first, e) h

    pub leaves : {a : Payer} {row : ℕ} {l : Local} {ls ls' : List ℕ} → p ≡ Some a
        → (has_enough c.tree_order (local_at s.locals a.slot) name n ≡ true → out (Held.Row row) ls ≡ local_take c.tree_order s.locals a.slot name n)
        → out l ls' ≡ local_clear ls a.slot → w ≡ demote_to c q name l q.local (st s.trees ls' s.bits s.looks s.tries) → w ≡ demote_local c q name s
    unfolding demote_local move_from on_held on_swap with_locals
    leaves some paid left h = rw (← from, ← much, ← first, some, ← much, ← paid (demote-enough _ _ _ _ _ _ first some), ← left) h
