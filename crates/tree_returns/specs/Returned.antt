-- The return of a reservation as one operation on the tree words: laws of `unreserve` and `unreserve_local`. Assumes nothing.
use Rattle.std.specs.Prelude.{◌≡◌, Bool, List, ℕ, ◌/◌, Option, Some, None}
use Rattle.std.proofs.Math.Path.{refl}
use Rattle.std.proofs.Math.Bool.{true, false}
use Rattle.rules.specs.Base.{ifte, Out, out}
use Rattle.rules.specs.Words.{Config, tree_rows}
use Rattle.rules.specs.Entries.{entry_unreserve}
use Rattle.rules.specs.declared.Local.{Local}
use Rattle.rules_calls.specs.State.{State, with_trees, on_took, unreserve, unreserve_local}
use Rattle.rules.specs.declared.Tree.{Tree}

-- whether it was taken back
unfoldable pub took_back : Out (Option Tree) (List ℕ) → Out Bool (List ℕ)
took_back (out (Some e) ts) = out true ts
took_back (out None ts) = out false ts

-- the reservation on tree t, held by class k with n free
unfoldable pub returned : Config → ℕ → ℕ → ℕ → List ℕ → Out Bool (List ℕ)
returned c t k n ts = took_back (entry_unreserve c ts t k n)

-- that of a local of class k, if it is present
unfoldable pub returned_local : Config → Local → ℕ → List ℕ → Out Bool (List ℕ)
returned_local c l k ts = ifte l.present (λ _. returned c (l.row / tree_rows c.tree_order) k l.free ts) (λ _. out true ts)

-- after a return: taken back, or stuck
unfoldable pub on_returned : {A : Type 0} → Out Bool (List ℕ) → State → (State → A) → (State → A) → A
on_returned (out true ts) s next fails = next (with_trees s ts)
on_returned (out false ts) s next fails = fails (with_trees s ts)

-- the answer alone
pub returned-alone : (r : Bool) (ts : List ℕ) (s : State) → on_returned (out r ts) s (out true) (out false) ≡ out r (with_trees s ts)
unfolding on_returned
returned-alone true ts s = refl
returned-alone false ts s = refl

module _ {A : Type 0} (s : State) (next fails : State → A) where
  back-next : (x : Out (Option Tree) (List ℕ)) → on_took x s (λ e. next) fails ≡ on_returned (took_back x) s next fails
  unfolding on_took took_back on_returned
  back-next (out (Some e) ts) = refl
  back-next (out None ts) = refl

  pub unreserve-returned : (c : Config) (t k n : ℕ) → unreserve c t k n s next fails ≡ on_returned (returned c t k n s.trees) s next fails
  unfolding unreserve returned
  unreserve-returned c t k n = back-next _

  -- by its answer
  pub returned-if : (b : Bool) (ts : List ℕ) → on_returned (out b ts) s next fails ≡ ifte b (λ _. next (with_trees s ts)) (λ _. fails (with_trees s ts))
  unfolding on_returned ifte
  returned-if true ts = refl
  returned-if false ts = refl

  if-next : (b : Bool) (x : A) (y : Out Bool (List ℕ)) → x ≡ on_returned y s next fails
      → ifte b (λ _. x) (λ _. next s) ≡ on_returned (ifte b (λ _. y) (λ _. out true s.trees)) s next fails
  unfolding ifte on_returned with_trees
  if-next true x y e = e
  if-next false x y e = refl

  pub local-returned : (c : Config) (l : Local) (k : ℕ) → unreserve_local c l k s next fails ≡ on_returned (returned_local c l k s.trees) s next fails
  unfolding unreserve_local returned_local
  local-returned c l k = if-next l.present _ _ (unreserve-returned c _ k _)
