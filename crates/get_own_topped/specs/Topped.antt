-- A part of a take from the own local as a definition of its own: topping it up. Its ways; laws of `top_by`. Assumes nothing.
use Rattle.std.specs.Prelude.{◌≡◌, Bool, List, ℕ, ◌-◌, ◌/◌, ◌<◌, ◌≤◌, ltb, Option, Some, None}
use Rattle.std.proofs.Math.Path.{refl}
use Rattle.std.proofs.Math.Bool.{true, false}
use Rattle.std.proofs.Common.{le-ltb, lt-ltb}
use Rattle.rules.specs.Base.{ifte, Out, out}
use Rattle.rules.specs.Words.{Config, tree_rows}
use Rattle.rules.specs.Entries.{entry_put, entry_sync}
use Rattle.rules.specs.Locals.{local_put}
use Rattle.rules.specs.declared.Request.{Request}
use Rattle.rules_calls.specs.State.{State, Way, st, size, missed_at, on_sync, on_put, put_entry, with_trees, with_locals}
use Rattle.rules_calls.specs.FromLocals.{top_by}

-- the local in slot j, which has too few for n frames, gets those of its tree's entry: whether it was topped up
unfoldable pub topped : Config → ℕ → ℕ → ℕ → ℕ → State → Out Bool State
topped c n j row free s =
    ifte (ltb n free) (λ _. out false s) (λ _.
    on_sync (entry_sync s.trees (row / tree_rows c.tree_order) (n - free)) s
    (λ x s1. on_put (local_put c.tree_order s1.locals j (row / tree_rows c.tree_order) x) s1
    (out true)
    (λ s2. out false (put_entry c (row / tree_rows c.tree_order) x s2)))
    (out false))

-- after a top up: taken again, or missed
unfoldable pub on_topped : {A : Type 0} → Out Bool State → (State → A) → (State → A) → A
on_topped (out true s) again miss = again s
on_topped (out false s) again miss = miss s

module _ {A : Type 0} (again miss : State → A) where
  put-topped : (f : State → State) (s : State) (x : Out Bool (List ℕ))
      → on_put x s again (λ s2. miss (f s2)) ≡ on_topped (on_put x s (out true) (λ s2. out false (f s2))) again miss
  unfolding on_put on_topped
  put-topped f s (out true l) = refl
  put-topped f s (out false l) = refl

  sync-topped : (g : ℕ → State → A) (h : ℕ → State → Out Bool State) (s : State) → ((n : ℕ) (s1 : State) → g n s1 ≡ on_topped (h n s1) again miss)
      → (x : Out (Option ℕ) (List ℕ)) → on_sync x s g miss ≡ on_topped (on_sync x s h (out false)) again miss
  unfolding on_sync on_topped
  sync-topped g h s e (out (Some n) t) = e n _
  sync-topped g h s e (out None t) = refl

  if-topped : (b : Bool) (s : State) (x : A) (y : Out Bool State) → x ≡ on_topped y again miss
      → ifte b (λ _. miss s) (λ _. x) ≡ on_topped (ifte b (λ _. out false s) (λ _. y)) again miss
  unfolding ifte on_topped
  if-topped true s x y e = refl
  if-topped false s x y e = e

-- the top up of the definition
pub top-topped : (again : State → Way) (c : Config) (q : Request) (j row free : ℕ) (s : State)
    → top_by again c q j row free s ≡ on_topped (topped c (size q) j row free s) again (missed_at (row / tree_rows c.tree_order))
unfolding top_by topped
top-topped again c q j row free s =
    if-topped again _ _ s _ _ (sync-topped again _ _ _ s (λ x s1. put-topped again _ (put_entry c (row / tree_rows c.tree_order) x) s1 _) _)

-- its ways in the terms of the code: it holds more already; the entry gives nothing; the local takes what it gives, or will not
module _ (c : Config) (n j row free : ℕ) (ts ls bs : List ℕ) (looks tries : ℕ) where
  pub topped-past : n < free → out false (st ts ls bs looks tries) ≡ topped c n j row free (st ts ls bs looks tries)
  unfolding topped ifte
  topped-past h = rw (lt-ltb _ _ h)

  module _ {o : Option ℕ} {us : List ℕ} (h : free ≤ n) (asked : out o us ≡ entry_sync ts (row / tree_rows c.tree_order) (n - free)) where
    pub topped-nothing : o ≡ None → out false (st us ls bs looks tries) ≡ topped c n j row free (st ts ls bs looks tries)
    unfolding topped on_sync with_trees ifte
    topped-nothing nothing = rw (le-ltb _ _ h, ← asked, nothing)

    module _ {x : ℕ} {r : Bool} {ms : List ℕ} (some : o ≡ Some x) (given : out r ms ≡ local_put c.tree_order ls j (row / tree_rows c.tree_order) x) where
      pub topped-took : r ≡ true → out true (st us ms bs looks tries) ≡ topped c n j row free (st ts ls bs looks tries)
      unfolding topped on_sync on_put with_trees with_locals ifte
      topped-took took = rw (le-ltb _ _ h, ← asked, some, ← given, took)

      pub topped-refused : {vs : List ℕ} → r ≡ false → vs ≡ entry_put c us (row / tree_rows c.tree_order) x
          → out false (st vs ms bs looks tries) ≡ topped c n j row free (st ts ls bs looks tries)
      unfolding topped on_sync on_put put_entry with_trees with_locals ifte
      topped-refused refused paid = rw (le-ltb _ _ h, ← asked, some, ← given, refused, paid)
