-- The bounds of the counts hold of the answers that the promise of `get` allows. Assumes nothing.
use Rattle.std.specs.Prelude.{◌≡◌, Option, Some, None}
use Rattle.std.proofs.Common.{sym, ap, ◌∙◌}
use mathlib.Core.List.{List}
use Prim.Native.Nat.{ℕ, ◌+◌, ◌-◌, ◌≤◌}
use native.Mathlib.Omega.{arith}
use Rattle.rules.specs.Words.{config, trees_of}
use Rattle.rules.specs.declared.Header.{Header}
use Rattle.rules.specs.declared.Request.{Request}
use Rattle.rules_calls.specs.declared.Reply.{Reply}
use Rattle.rules_calls.specs.State.{State, st}
use Rattle.rules_calls.specs.Search.{near}
use Rattle.rules_calls.specs.Calls.{Told, get}
use Rattle.rules_calls.specs.Promises.{Words, GetPromise}
use Rattle.thm_complete.specs.Complete.{tell-state}
use Rattle.thm_counts.specs.Counts.{get-unnamed-counts, get-named-counts}

module _ (h : Header) (pairs : List ℕ) (q : Request) (s : Words) (r : Reply) (e : Words) where
  reply-looks : (name : Option ℕ) → GetPromise h pairs name q s r e → r.looks ≡ (get (config h pairs) q name s.trees s.locals s.bits).looks
  reply-looks name p = sym (ap (λ (x : State). x.looks) (tell-state r.granted (st e.trees e.locals e.bits r.looks r.tries))) ∙ ap (λ (x : Told). x.looks) p

  reply-tries : (name : Option ℕ) → GetPromise h pairs name q s r e → r.tries ≡ (get (config h pairs) q name s.trees s.locals s.bits).tries
  reply-tries name p = sym (ap (λ (x : State). x.tries) (tell-state r.granted (st e.trees e.locals e.bits r.looks r.tries))) ∙ ap (λ (x : Told). x.tries) p

  pub promise-unnamed-counts : GetPromise h pairs None q s r e → (r.looks ≤ trees_of (config h pairs) + near (trees_of (config h pairs)) - 1) × (r.tries ≤ r.looks + 3)
  promise-unnamed-counts p =
      let C = get-unnamed-counts (config h pairs) q s.trees s.locals s.bits in
      (omega (arith, C.0, reply-looks None p), omega (arith, C.1, reply-looks None p, reply-tries None p))

  pub promise-named-counts : (f : ℕ) → GetPromise h pairs (Some f) q s r e → (r.looks ≡ 0) × (r.tries ≤ 4)
  promise-named-counts f p =
      let C = get-named-counts (config h pairs) q f s.trees s.locals s.bits in
      (omega (arith, C.0, reply-looks (Some f) p), omega (arith, C.1, reply-tries (Some f) p))
