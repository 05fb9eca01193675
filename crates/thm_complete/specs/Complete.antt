-- Each promise is complete: two answers that satisfy it for the same input are equal, and so is every lent word after them. Assumes nothing.
use Rattle.std.specs.Prelude.{◌≡◌, refl, Bool, List, ℕ, zero, suc, ◌≤◌, eqb, Option, Result, Ok, Err, ⊤}
use Rattle.std.proofs.Common.{sym, ap, ap₂, ◌∙◌, arith}
use Rattle.rules.specs.Base.{pick}
use Rattle.rules.specs.declared.Header.{Header}
use Rattle.rules.specs.declared.Request.{Request}
use Rattle.rules_calls.specs.declared.Refusal.{Refusal}
use Rattle.rules_calls.specs.declared.Granted.{Granted}
use Rattle.rules_calls.specs.declared.Reply.{Reply}
use Rattle.rules_calls.specs.declared.Tally.{Tally}
use Rattle.rules_calls.specs.declared.Totals.{Totals}
use Rattle.rules_calls.specs.State.{State, st}
use Rattle.rules_calls.specs.Calls.{Told, number_of, outcome_of, tell_get, told}
use Rattle.rules_calls.specs.Statistics.{Report, told_totals}
use Rattle.rules_calls.specs.Promises.{Words, words, StartPromise, GetPromise, PutPromise, DrainPromise, StatisticsPromise}

-- ---- a number tells the refusal
unfoldable pub refusal_of : ℕ → Refusal
refusal_of n =
    pick (eqb n 1) Refusal.Broken
    (pick (eqb n 2) Refusal.Order
    (pick (eqb n 3) Refusal.Bounds
    (pick (eqb n 4) Refusal.Misaligned
    (pick (eqb n 5) Refusal.Class
    (pick (eqb n 6) Refusal.Local
    (pick (eqb n 7) Refusal.Memory
    (pick (eqb n 8) Refusal.NotHeld
    (pick (eqb n 9) Refusal.Stuck
    (pick (eqb n 10) Refusal.Config Refusal.Rows)))))))))

back : (x : Refusal) → refusal_of (number_of x) ≡ x
unfolding number_of refusal_of
back Refusal.Broken = refl
back Refusal.Order = refl
back Refusal.Bounds = refl
back Refusal.Misaligned = refl
back Refusal.Class = refl
back Refusal.Local = refl
back Refusal.Memory = refl
back Refusal.NotHeld = refl
back Refusal.Stuck = refl
back Refusal.Config = refl
back Refusal.Rows = refl

-- each number from 1 to 11 is that of a refusal
pub number-back : (n : ℕ) → 1 ≤ n → n ≤ 11 → number_of (refusal_of n) ≡ n
unfolding number_of refusal_of
number-back zero l m = absurd (omega arith)
number-back (suc zero) l m = refl
number-back (suc (suc zero)) l m = refl
number-back (suc (suc (suc zero))) l m = refl
number-back (suc (suc (suc (suc zero)))) l m = refl
number-back (suc (suc (suc (suc (suc zero))))) l m = refl
number-back (suc (suc (suc (suc (suc (suc zero)))))) l m = refl
number-back (suc (suc (suc (suc (suc (suc (suc zero))))))) l m = refl
number-back (suc (suc (suc (suc (suc (suc (suc (suc zero)))))))) l m = refl
number-back (suc (suc (suc (suc (suc (suc (suc (suc (suc zero))))))))) l m = refl
number-back (suc (suc (suc (suc (suc (suc (suc (suc (suc (suc zero)))))))))) l m = refl
number-back (suc (suc (suc (suc (suc (suc (suc (suc (suc (suc (suc zero))))))))))) l m = refl
number-back (suc (suc (suc (suc (suc (suc (suc (suc (suc (suc (suc (suc n)))))))))))) l m = absurd (omega arith)

-- so no two refusals have one number
pub same-refusal : (x y : Refusal) → number_of x ≡ number_of y → x ≡ y
same-refusal x y e = sym (back x) ∙ ap refusal_of e ∙ back y

-- no refusal is 0
pub refused : {X : Type 0} (x : Refusal) → number_of x ≡ 0 → X
unfolding number_of
refused Refusal.Broken e = absurd (omega (arith, e))
refused Refusal.Order e = absurd (omega (arith, e))
refused Refusal.Bounds e = absurd (omega (arith, e))
refused Refusal.Misaligned e = absurd (omega (arith, e))
refused Refusal.Class e = absurd (omega (arith, e))
refused Refusal.Local e = absurd (omega (arith, e))
refused Refusal.Memory e = absurd (omega (arith, e))
refused Refusal.NotHeld e = absurd (omega (arith, e))
refused Refusal.Stuck e = absurd (omega (arith, e))
refused Refusal.Config e = absurd (omega (arith, e))
refused Refusal.Rows e = absurd (omega (arith, e))

-- and no two outcomes
pub same_outcome : (x y : Result ⊤ Refusal) → outcome_of x ≡ outcome_of y → x ≡ y
unfolding outcome_of
same_outcome (Ok u) (Ok v) e = refl
same_outcome (Ok u) (Err y) e = refused y (sym e)
same_outcome (Err x) (Ok u) e = refused x e
same_outcome (Err x) (Err y) e = ap Err (same-refusal x y e)

-- ---- what is told fixes the answer and the words
pub same-words : (e d : Words) → e.trees ≡ d.trees → e.locals ≡ d.locals → e.bits ≡ d.bits → e ≡ d
same-words e d p q r =
    ap (λ (x : List ℕ). words x e.locals e.bits) p ∙ ap (λ (x : List ℕ). words d.trees x e.bits) q ∙ ap (λ (x : List ℕ). words d.trees d.locals x) r

told-once : (r q : Result ⊤ Refusal) (e d : Words) → told r e.trees e.locals e.bits ≡ told q d.trees d.locals d.bits → (r ≡ q) × (e ≡ d)
told-once r q e d p = (
  same_outcome r q (ap (λ (x : Told). x.number) p),
  same-words e d (ap (λ (x : Told). x.trees) p) (ap (λ (x : Told). x.locals) p) (ap (λ (x : Told). x.bits) p),
)

-- the state of what is told
abbrev state_of : Told → State
state_of r = st r.trees r.locals r.bits r.looks r.tries

-- a get tells the counts and words of its state, whatever its answer
pub tell-state : (g : Result Granted Refusal) (s : State) → state_of (tell_get g s) ≡ s
unfolding tell_get
tell-state (Ok g) s = refl
tell-state (Err x) s = refl

granting : ℕ → ℕ → Granted
granting f k = record { frame = f; class = k }

same-granted : (g u : Result Granted Refusal) (s v : State) → tell_get g s ≡ tell_get u v → g ≡ u
unfolding tell_get granting
same-granted (Ok g) (Ok u) s v p = ap₂ (λ (f k : ℕ). Ok (granting f k)) (ap (λ (x : Told). x.frame) p) (ap (λ (x : Told). x.class) p)
same-granted (Ok g) (Err y) s v p = refused y (sym (ap (λ (x : Told). x.number) p))
same-granted (Err x) (Ok u) s v p = refused x (ap (λ (x : Told). x.number) p)
same-granted (Err x) (Err y) s v p = ap Err (same-refusal x y (ap (λ (x : Told). x.number) p))

reply : Result Granted Refusal → ℕ → ℕ → Reply
reply g i k = record { granted = g; looks = i; tries = k }

same-reply : (r q : Reply) → r.granted ≡ q.granted → r.looks ≡ q.looks → r.tries ≡ q.tries → r ≡ q
unfolding reply
same-reply r q a b d =
    ap (λ (x : Result Granted Refusal). reply x r.looks r.tries) a ∙ ap (λ (x : ℕ). reply q.granted x r.tries) b ∙ ap (λ (x : ℕ). reply q.granted q.looks x) d

totals : ℕ → ℕ → Totals
totals f t = record { free = f; trees = t }

same-totals : (r q : Result Totals Refusal) (filled others : List Tally) → told_totals r filled ≡ told_totals q others → r ≡ q
unfolding totals
same-totals (Ok r) (Ok q) filled others p = ap₂ (λ (f t : ℕ). Ok (totals f t)) (ap (λ (x : Report). x.free) p) (ap (λ (x : Report). x.trees) p)
same-totals (Ok r) (Err y) filled others p = refused y (sym (ap (λ (x : Report). x.number) p))
same-totals (Err x) (Ok q) filled others p = refused x (ap (λ (x : Report). x.number) p)
same-totals (Err x) (Err y) filled others p = ap Err (same-refusal x y (ap (λ (x : Report). x.number) p))

-- the rows of what is told
pub told-rows : (r : Result Totals Refusal) (rows : List Tally) → (told_totals r rows).rows ≡ rows
told-rows (Ok t) rows = refl
told-rows (Err x) rows = refl

-- ---- the theorems: header, table, arguments and words before are the same; r and q are two answers, e and d the words after them
module _ (h : Header) (pairs : List ℕ) (s : Words) where
  pub start-complete : (all_free : Bool) (r q : Result ⊤ Refusal) (e d : Words) → StartPromise h pairs all_free s r e → StartPromise h pairs all_free s q d → (r ≡ q) × (e ≡ d)
  start-complete all_free r q e d P Q = told-once r q e d (P ∙ sym Q)

  pub get-complete : (name : Option ℕ) (a : Request) (r q : Reply) (e d : Words) → GetPromise h pairs name a s r e → GetPromise h pairs name a s q d → (r ≡ q) × (e ≡ d)
  get-complete name a r q e d P Q =
      let u : State = st e.trees e.locals e.bits r.looks r.tries in
      let v : State = st d.trees d.locals d.bits q.looks q.tries in
      let O : u ≡ v = sym (tell-state r.granted u) ∙ ap state_of (P ∙ sym Q) ∙ tell-state q.granted v in (
        same-reply r q (same-granted r.granted q.granted u v (P ∙ sym Q)) (ap (λ (x : State). x.looks) O) (ap (λ (x : State). x.tries) O),
        same-words e d (ap (λ (x : State). x.trees) O) (ap (λ (x : State). x.locals) O) (ap (λ (x : State). x.bits) O),
      )

  pub put-complete : (f : ℕ) (a : Request) (r q : Result ⊤ Refusal) (e d : Words) → PutPromise h pairs f a s r e → PutPromise h pairs f a s q d → (r ≡ q) × (e ≡ d)
  put-complete f a r q e d P Q = told-once r q e d (P ∙ sym Q)

  pub drain-complete : (r q : Result ⊤ Refusal) (e d : Words) → DrainPromise h pairs s r e → DrainPromise h pairs s q d → (r ≡ q) × (e ≡ d)
  drain-complete r q e d P Q = told-once r q e d (P ∙ sym Q)

  pub statistics-complete : (rows : List Tally) (r q : Result Totals Refusal) (filled others : List Tally) → StatisticsPromise h pairs s rows r filled → StatisticsPromise h pairs s rows q others
      → (r ≡ q) × (filled ≡ others)
  statistics-complete rows r q filled others P Q =
      let T = P ∙ sym Q in (
        same-totals r q filled others T,
        sym (told-rows r filled) ∙ ap (λ (x : Report). x.rows) T ∙ told-rows q others,
      )
