-- All routes of a get leave the rules standing. Assumes nothing.
use Rattle.std.specs.Prelude.{◌≡◌, ℕ, ◌/◌, ltb, Option, Some, None}
use Rattle.std.proofs.Math.Path.{refl, subst}
use mathlib.Core.List.{List}
use Rattle.std.proofs.Common.{arith}
use Rattle.std.proofs.Math.Pow.{pow_pos}
use Rattle.rules.specs.Words.{Config, tree_frames, trees_of, locals_of, slot}
use Rattle.rules.specs.declared.Request.{Request}
use Rattle.rules_calls.specs.State.{State}
use Rattle.rules_calls.specs.FromLocals.{get_local}
use Rattle.rules_calls.specs.Search.{search_and_reserve}
use Rattle.rules_calls.specs.Get.{last_routes, get_at, start_tree, get_reserving, search_trees, get_any, routes}
use Rattle.law_rules.specs.Sizes.{Size, tree-below}
use Rattle.thm_hand.specs.Hand.{Kept}
use Rattle.law_calls.specs.Steps.{ifte-ind, from-ind}
use Rattle.law_calls.specs.Checked.{LocalIn}
use Rattle.thm_keeps.specs.Fine.{Fine, Asks, else-fine}
use Rattle.thm_keeps.specs.Steals.{steal_global-fine}
use Rattle.thm_keeps.specs.Own.{get_local-fine, own_local-fine}
use Rattle.thm_keeps.specs.Payers.{steal_local-fine, demote_local-fine}
use Rattle.thm_keeps.specs.Searches.{search_and_steal-fine, search_and_reserve-fine}

module _ (c : Config) (sz : Size c.tree_order) (q : Request) where
  last-fine : (name : Option ℕ) → Asks c q name → (s : State) → Kept c s.trees s.locals s.bits → Fine c q.order name s.bits (last_routes c q name s)
  unfolding last_routes
  last-fine name A s K = else-fine c q.order name s.bits _ _ (steal_local-fine c sz q name A s K) (λ v Kv. demote_local-fine c sz q name A v Kv)

  -- a named frame
  pub get_at-fine : (f : ℕ) → Asks c q (Some f) → (s : State) → Kept c s.trees s.locals s.bits → Fine c q.order (Some f) s.bits (get_at c q f s)
  unfolding get_at
  get_at-fine f A s K =
      else-fine c q.order (Some f) s.bits _ _ (own_local-fine c sz q (Some f) A q.local s K) (λ v Kv.
      else-fine c q.order (Some f) v.bits _ _
      (steal_global-fine c sz q (Some f) A (f / tree_frames c.tree_order) (tree-below c.tree_order sz f c.frames (omega (arith, A.frame.1, pow_pos q.order))) refl v Kv)
      (λ u Ku. last-fine (Some f) A u Ku))

  -- no name
  module _ (A : Asks c q None) where
    trees-fine : (l : Option ℕ) → LocalIn c q.class l → (s : State) → Kept c s.trees s.locals s.bits → Fine c q.order None s.bits (search_trees c q l s)
    unfolding search_trees get_reserving
    trees-fine (Some i) li s K =
        ifte-ind (Fine c q.order None s.bits) (ltb (locals_of c.places q.class) (trees_of c)) _ _
        (λ _. from-ind (Fine c q.order None s.bits) (Fine c q.order None s.bits) (get_local 1 c q None (slot c.places q.class i) s)
        (get_local-fine c sz q None A (slot c.places q.class i) 1 s K) (λ f k v F. F) (λ v F. absurd F.1) _ _
        (λ v F. on (start_tree c q (Some i)) v F.1 F.0)
        (λ t v F. on t v F.1 F.0))
        (λ _. search_and_steal-fine c sz q A (start_tree c q (Some i)) s K)
      where
        on : (start : ℕ) (v : State) → v.bits ≡ s.bits → Kept c v.trees v.locals v.bits → Fine c q.order None s.bits (search_and_reserve c q (slot c.places q.class i) start v)
        on start v e Kv = subst (λ (d : List ℕ). Fine c q.order None d (search_and_reserve c q (slot c.places q.class i) start v)) e (search_and_reserve-fine c sz q A i li start v Kv)
    trees-fine None li s K = search_and_steal-fine c sz q A (start_tree c q None) s K

    pub get_any-fine : (s : State) → Kept c s.trees s.locals s.bits → Fine c q.order None s.bits (get_any c q s)
    unfolding get_any
    get_any-fine s K = else-fine c q.order None s.bits _ _ (trees-fine q.local A.local s K) (λ v Kv. last-fine None A v Kv)

  -- a get: the rules stand, it is never stuck, a granted block was wholly free and is the named one
  pub routes-fine : (name : Option ℕ) → Asks c q name → (s : State) → Kept c s.trees s.locals s.bits → Fine c q.order name s.bits (routes c q name s)
  unfolding routes
  routes-fine None A s K = get_any-fine A s K
  routes-fine (Some f) A s K = get_at-fine f A s K
