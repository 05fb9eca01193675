-- Steal globally leaves the rules standing. Assumes nothing.
use Rattle.std.specs.Prelude.{◌≡◌, refl, ℕ, ◌-◌, ◌*◌, ◌<◌, set, Option}
use Rattle.std.proofs.Common.{sym, arith}
use Rattle.std.proofs.Math.Path.{subst}
use Rattle.std.proofs.Math.Bool.{false}
use Rattle.std.proofs.Math.Logic.{⊎_elim}
use Rattle.rules.specs.Words.{Config, tree_rows, trees_of, tree_word, entry, entry_at}
use Rattle.rules.specs.Policy.{Configured}
use Rattle.rules.specs.declared.Request.{Request}
use Rattle.rules_calls.specs.State.{State, size, missed, with_trees}
use Rattle.rules_calls.specs.Walking.{steal_global}
use Rattle.law_rules.specs.Lower.{sought_tree}
use Rattle.law_rules.specs.Sizes.{Size}
use Rattle.thm_hand.specs.Hand.{here, nothing, Kept}
use Rattle.law_calls.specs.Steps.{steal-ind}
use Rattle.thm_hand.specs.Entries.{hand-steal}
use Rattle.thm_keeps.specs.Fine.{Fine, Asks, ask_lower-fine}

module _ (c : Config) (sz : Size c.tree_order) (q : Request) (name : Option ℕ) (A : Asks c q name) where
  pub steal_global-fine : (t : ℕ) → t < trees_of c → sought_tree c.tree_order (t * tree_rows c.tree_order) name ≡ t
      → (s : State) → Kept c s.trees s.locals s.bits → Fine c q.order name s.bits (steal_global c q name t s)
  unfolding steal_global missed with_trees
  steal_global-fine t lt at s K =
      steal-ind (Fine c q.order name s.bits) s c t q.class (size q) _ _
      (λ x r le _ or.
      let conf : Configured c x = ⊎_elim (λ e. subst (Configured c) (sym e) A.class) (λ e. subst (Configured c) (sym e) (K.class t lt)) or in
      ask_lower-fine c sz q name A (with_trees s (set s.trees t (tree_word (entry ((entry_at s.trees t).free - size q) false x)))) t (t * tree_rows c.tree_order) x
      (hand-steal c sz s.trees s.locals s.bits nothing nothing K t lt (size q) x (here t (size q)) r le conf (λ i. omega arith)) lt at conf)
      (λ _. (K, refl))
