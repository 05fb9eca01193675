-- Laws of the loops: the locals of a class in turn, the classes in turn. Assumes nothing.
use Rattle.std.specs.Prelude.{◌≡◌, refl, Bool, true, false, List}
use Prim.Native.Nat.{ℕ, suc, ◌+◌, ◌-◌, ◌<◌, ◌≤◌}
use native.Mathlib.Omega.{arith}
use Rattle.rules.specs.Base.{Out, out, sum}
use Rattle.rules.specs.Words.{Config, locals_of, slot}
use Rattle.rules.specs.Locals.{local_clear}
use Rattle.rules.specs.declared.Local.{Local}
use Rattle.rules_calls.specs.State.{State, on_swap, unreserve_local}
use Rattle.rules_calls.specs.Calls.{drain_locals, on_drained, drain_classes}
use Rattle.tree_returns.specs.Returned.{on_returned, local-returned}

-- the local in slot j, of class k, becomes absent and its reservation is returned; false where that is stuck
unfoldable pub drain_one : Config → ℕ → ℕ → State → Out Bool State
drain_one c k j s = on_swap (local_clear s.locals j) s (λ l s1. unreserve_local c l k s1 (out true) (out false))

-- what follows a return that is not stuck
returned-next : (x : Out Bool (List ℕ)) (s : State) (next : State → Out Bool State)
    → on_returned x s next (out false) ≡ on_drained (on_returned x s (out true) (out false)) next
unfolding on_returned on_drained
returned-next (out true t) s next = refl
returned-next (out false t) s next = refl

local-next : (c : Config) (l : Local) (k : ℕ) (s : State) (next : State → Out Bool State)
    → unreserve_local c l k s next (out false) ≡ on_drained (unreserve_local c l k s (out true) (out false)) next
local-next c l k s next =
    rw (local-returned s next (out false) c l k, local-returned s (out true) (out false) c l k) (returned-next _ s next)

module _ (c : Config) (last : ℕ) (s : State) where
  -- no local is left
  pub locals-end : (k i : ℕ) → last ≤ i → drain_locals (last - i) c k i s ≡ out true s
  unfolding drain_locals
  locals-end k i h = let e : last - i ≡ 0 = omega arith in rw e

  -- one local, then the next ones
  locals-more : (k i : ℕ) → i < last
      → drain_locals (last - i) c k i s ≡ on_drained (drain_one c k (slot c.places k i) s) (drain_locals (last - (i + 1)) c k (i + 1))
  unfolding drain_locals drain_one on_swap local_clear
  locals-more k i h = let e : last - i ≡ suc (last - (i + 1)) = omega arith in rw e (local-next c _ k _ _)

  -- one that is stuck ends them; after one that is drained the next ones are left
  pub locals-stuck : (k i first : ℕ) {r : Bool} {t : State} → i < last → first ≡ sum (locals_of c.places) 0 k → out r t ≡ drain_one c k (first + i) s
      → r ≡ false → out false t ≡ drain_locals (last - i) c k i s
  unfolding on_drained slot
  locals-stuck k i first h e d f = rw (locals-more k i h, ← e, ← d, f)

  pub locals-next : (k i first : ℕ) {r : Bool} {t : State} → i < last → first ≡ sum (locals_of c.places) 0 k → out r t ≡ drain_one c k (first + i) s
      → r ≡ true → drain_locals (last - (i + 1)) c k (i + 1) t ≡ drain_locals (last - i) c k i s
  unfolding on_drained slot
  locals-next k i first h e d f = rw (locals-more k i h, ← e, ← d, f)

  -- no class is left
  pub classes-end : (k : ℕ) → last ≤ k → drain_classes (last - k) c k s ≡ out true s
  unfolding drain_classes
  classes-end k h = let e : last - k ≡ 0 = omega arith in rw e

  -- one class, then the next ones
  pub classes-more : (k : ℕ) → k < last
      → drain_classes (last - k) c k s ≡ on_drained (drain_locals (locals_of c.places k) c k 0 s) (drain_classes (last - (k + 1)) c (k + 1))
  unfolding drain_classes
  classes-more k h = let e : last - k ≡ suc (last - (k + 1)) = omega arith in rw e
