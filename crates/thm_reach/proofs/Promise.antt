-- The same of every answer that the promise of `get` allows. Assumes nothing.
use Rattle.std.specs.Prelude.{◌≡◌, true, List, ℕ, None, Result, Err, Ok}
use Rattle.std.proofs.Common.{sym, ap, ◌∙◌, arith}
use Rattle.rules.specs.Words.{config}
use Rattle.rules.specs.declared.Header.{Header}
use Rattle.rules.specs.declared.Request.{Request}
use Rattle.rules_calls.specs.declared.Refusal.{Refusal}
use Rattle.rules_calls.specs.declared.Granted.{Granted}
use Rattle.rules_calls.specs.declared.Reply.{Reply}
use Rattle.rules_calls.specs.State.{State, st}
use Rattle.rules_calls.specs.Standing.{standing}
use Rattle.rules_calls.specs.Calls.{Told, number_of, tell_get, refusal}
use Rattle.rules_calls.specs.Promises.{Words, GetPromise}
use Rattle.law_rules.specs.Sizes.{size-eleven}
use Rattle.thm_complete.specs.Complete.{same-refusal}
use Rattle.thm_keeps.specs.Standing.{TreeWords}
use Rattle.thm_reach.specs.Reach.{Unreachable}
use Rattle.thm_reach.proofs.Memory.{memory-exactly}

-- a get that tells 7 is refused with Memory
told-memory : (g : Result Granted Refusal) (s : State) → (tell_get g s).number ≡ 7 → g ≡ Err Refusal.Memory
unfolding tell_get number_of
told-memory (Ok g) s e = absurd (omega arith)
told-memory (Err x) s e = ap Err (same-refusal x Refusal.Memory e)

memory-told : (g : Result Granted Refusal) (s : State) → g ≡ Err Refusal.Memory → (tell_get g s).number ≡ 7
unfolding tell_get number_of
memory-told g s e = rw e

-- the code's get of one frame with no name answers Memory exactly if nothing reachable has a free frame
pub promise-memory : (h : Header) (pairs : List ℕ) (q : Request) (s : Words) (r : Reply) (e : Words) → GetPromise h pairs None q s r e
    → TreeWords s.trees → standing (config h pairs) s.trees s.locals s.bits ≡ true → q.order ≡ 0 → refusal (config h pairs) q 0 ≡ 0
    → (r.granted ≡ Err Refusal.Memory → Unreachable (config h pairs) s.trees s.locals q.class q.local)
    × (Unreachable (config h pairs) s.trees s.locals q.class q.local → r.granted ≡ Err Refusal.Memory)
promise-memory h pairs q s r e p w S single fit =
    let after : State = st e.trees e.locals e.bits r.looks r.tries in
    let M = memory-exactly (config h pairs) size-eleven s.trees s.locals s.bits w S q single fit in
    ((λ g. M.0 (sym (ap (λ (x : Told). x.number) p) ∙ memory-told r.granted after g)), (λ U. told-memory r.granted after (ap (λ (x : Told). x.number) p ∙ M.1 U)))
