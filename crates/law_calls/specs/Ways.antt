-- Whatever holds of every way on from a step, whatever its answer, holds of the step. Assumes nothing.
use Rattle.std.specs.Prelude.{Bool, List, ℕ, Option, Some, None}
use Rattle.std.proofs.Math.Bool.{true, false}
use Rattle.rules.specs.Base.{Out, out}
use Rattle.rules.specs.Words.{Config}
use Rattle.rules.specs.Entries.{entry_unreserve}
use Rattle.rules.specs.declared.Tree.{Tree}
use Rattle.rules.specs.declared.Local.{Local}
use Rattle.rules.specs.declared.Taken.{Taken}
use Rattle.rules.specs.declared.Held.{Held}
use Rattle.rules_calls.specs.State.{State, with_trees, with_locals, with_try, on_took, on_taken, on_sync, on_held, on_put, on_swap, on_found, unreserve, unreserve_local}
use Rattle.law_calls.specs.Steps.{ifte-ind}

module _ {A : Type 0} (Q : A → Type 0) where
  pub took-any : (o : Out (Option Tree) (List ℕ)) (s : State) (y : Tree → State → A) (m : State → A)
      → ((e : Tree) (t : List ℕ) → Q (y e (with_trees s t))) → ((t : List ℕ) → Q (m (with_trees s t))) → Q (on_took o s y m)
  unfolding on_took
  took-any (out (Some e) t) s y m f g = f e t
  took-any (out None t) s y m f g = g t

  pub taken-any : (o : Out (Option Taken) (List ℕ)) (s : State) (y : Tree → State → A) (w : ℕ → State → A) (m : State → A)
      → ((e : Tree) (t : List ℕ) → Q (y e (with_trees s t))) → ((n : ℕ) (t : List ℕ) → Q (w n (with_trees s t))) → ((t : List ℕ) → Q (m (with_trees s t))) → Q (on_taken o s y w m)
  unfolding on_taken
  taken-any (out (Some (Taken.Part e)) t) s y w m f h g = f e t
  taken-any (out (Some (Taken.Whole e n)) t) s y w m f h g = h n t
  taken-any (out None t) s y w m f h g = g t

  pub sync-any : (o : Out (Option ℕ) (List ℕ)) (s : State) (y : ℕ → State → A) (m : State → A)
      → ((n : ℕ) (t : List ℕ) → Q (y n (with_trees s t))) → ((t : List ℕ) → Q (m (with_trees s t))) → Q (on_sync o s y m)
  unfolding on_sync
  sync-any (out (Some n) t) s y m f g = f n t
  sync-any (out None t) s y m f g = g t

  pub held_any : (o : Out Held (List ℕ)) (s : State) (y : ℕ → State → A) (f : ℕ → ℕ → State → A) (m : State → A)
      → ((row : ℕ) (l : List ℕ) → Q (y row (with_locals s l))) → ((row free : ℕ) (l : List ℕ) → Q (f row free (with_locals s l))) → ((l : List ℕ) → Q (m (with_locals s l))) → Q (on_held o s y f m)
  unfolding on_held
  held_any (out (Held.Row row) l) s y f m a b d = a row l
  held_any (out (Held.Few row free) l) s y f m a b d = b row free l
  held_any (out Held.Absent l) s y f m a b d = d l

  pub put-any : (o : Out Bool (List ℕ)) (s : State) (y m : State → A) → ((l : List ℕ) → Q (y (with_locals s l))) → ((l : List ℕ) → Q (m (with_locals s l))) → Q (on_put o s y m)
  unfolding on_put
  put-any (out true l) s y m f g = f l
  put-any (out false l) s y m f g = g l

  pub swap_any : (o : Out Local (List ℕ)) (s : State) (y : Local → State → A) → ((old : Local) (l : List ℕ) → Q (y old (with_locals s l))) → Q (on_swap o s y)
  unfolding on_swap
  swap_any (out old l) s y f = f old l

  pub found-any : (o : Out (Option ℕ) (List ℕ)) (s : State) (y : ℕ → State → A) (m : State → A)
      → ((f : ℕ) (b : List ℕ) → Q (y f (with_try s b))) → ((b : List ℕ) → Q (m (with_try s b))) → Q (on_found o s y m)
  unfolding on_found
  found-any (out (Some x) b) s y m f g = f x b
  found-any (out None b) s y m f g = g b

  pub unreserve-any : (c : Config) (i k n : ℕ) (s : State) (y m : State → A) → ((t : List ℕ) → Q (y (with_trees s t))) → ((t : List ℕ) → Q (m (with_trees s t))) → Q (unreserve c i k n s y m)
  unfolding unreserve
  unreserve-any c i k n s y m f g = took-any (entry_unreserve c s.trees i k n) s _ m (λ e t. f t) g

  pub unreserve_local-any : (c : Config) (l : Local) (k : ℕ) (s : State) (y m : State → A) → ((t : List ℕ) → Q (y (with_trees s t))) → ((t : List ℕ) → Q (m (with_trees s t))) → Q (unreserve_local c l k s y m)
  unfolding unreserve_local with_trees
  unreserve_local-any c l k s y m f g = ifte-ind Q l.present _ _ (λ _. unreserve-any c _ k _ s y m f g) (λ _. f s.trees)
