-- A tree that was reserved, by the answers of the steps: laws of `reserved`. Assumes nothing.
use Rattle.std.specs.Prelude.{◌≡◌, Bool, List, ℕ, ◌+◌, ◌-◌, ◌*◌, Option, Some, None}
use Rattle.rules.specs.Base.{ifte, out}
use Rattle.rules.specs.Words.{Config, tree_rows}
use Rattle.rules.specs.Locals.{local_swap, reservation}
use Rattle.rules.specs.Lower.{lower_get}
use Rattle.rules.specs.declared.Local.{Local}
use Rattle.rules.specs.declared.Request.{Request}
use Rattle.rules_calls.specs.declared.Routed.{Routed}
use Rattle.rules_calls.specs.State.{State, Way, st, ended, size, done, missed, stuck, on_found, on_swap, with_locals, with_trees, with_try}
use Rattle.rules_calls.specs.Walking.{reserved_tree}
use Rattle.tree_returns.specs.Returned.{returned, returned_local, local-returned, returned-if, unreserve-returned}

module _ (c : Config) (q : Request) (j t old : ℕ) (s : State) {w : Way} {x : Option ℕ} {bs ts : List ℕ} {b : Bool} {r : Routed}
    (asked : out x bs ≡ lower_get c.tree_order s.bits (t * tree_rows c.tree_order) q.order None)
    (same : r.counts ≡ record { looks = s.looks; tries = s.tries + 1 }) where
  -- a frame: the reservation is stored, and the one that it replaces returned, or Stuck
  pub reserved-stored : {f n free : ℕ} {new l : Local} {ls : List ℕ} → x ≡ Some f → n ≡ size q → free ≡ old - n → new ≡ reservation (t * tree_rows c.tree_order) free
      → out l ls ≡ local_swap s.locals j new → out b ts ≡ returned_local c l q.class s.trees
      → ended r ts ls bs ≡ done f q.class (st ts ls bs s.looks (s.tries + 1))
      → w ≡ ifte b (λ _. ended r ts ls bs) (λ _. stuck (st ts ls bs r.counts.looks r.counts.tries)) → w ≡ reserved_tree c q j t old s
  unfolding reserved_tree on_found on_swap with_trees with_locals with_try
  reserved-stored e much left made swap back end h =
      rw (← asked, e, ← much, ← left, ← made, ← swap, local-returned _ _ _ _ _ _, ← back, returned-if _ _ _ _ _, ← (rw same at end)) (rw same at h)

  -- none: it is undone, or Stuck
  pub reserved-undone : x ≡ None → out b ts ≡ returned c t q.class old s.trees
      → ended r ts s.locals bs ≡ missed (st ts s.locals bs s.looks (s.tries + 1))
      → w ≡ ifte b (λ _. ended r ts s.locals bs) (λ _. stuck (st ts s.locals bs r.counts.looks r.counts.tries)) → w ≡ reserved_tree c q j t old s
  unfolding reserved_tree on_found with_trees with_try
  reserved-undone e back end h = rw (← asked, e, unreserve-returned _ _ _ _ _ _ _, ← back, returned-if _ _ _ _ _, ← (rw same at end)) (rw same at h)
