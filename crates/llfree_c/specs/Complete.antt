-- Each promise of the archive is complete: two answers that satisfy it for the same input are equal, and so is every lent word after them. Assumes nothing.
use Rattle.std.specs.Prelude.{◌≡◌, Bool, List, ℕ, Option}
use Rattle.std.proofs.Common.{sym, ap, ◌∙◌}
use Rattle.rules.specs.declared.Header.{Header}
use Rattle.rules.specs.declared.Request.{Request}
use Rattle.rules_calls.specs.Calls.{Told, telling, fresh}
use Rattle.rules_calls.specs.declared.Tally.{Tally}
use Rattle.rules_calls.specs.Statistics.{Report}
use Rattle.rules_calls.specs.Promises.{Words}
use Rattle.thm_complete.specs.Complete.{same-words}
use Rattle.c_numbers.specs.declared.Answer.{Answer}
use Rattle.c_forms.specs.declared.Summary.{Summary}
use Rattle.llfree_c.specs.Promises.{StartNumber, GetAnswer, PutNumber, DrainNumber, StatisticsAnswer}

-- a number and the words that it is told with
told-once : (r q : ℕ) (e d : Words) → telling r 0 0 (fresh e.trees e.locals e.bits) ≡ telling q 0 0 (fresh d.trees d.locals d.bits) → (r ≡ q) × (e ≡ d)
told-once r q e d p = (ap (λ (x : Told). x.number) p, same-words e d (ap (λ (x : Told). x.trees) p) (ap (λ (x : Told). x.locals) p) (ap (λ (x : Told). x.bits) p))

answer : ℕ → ℕ → ℕ → ℕ → ℕ → Answer
answer n f k i t = record { number = n; frame = f; class = k; looks = i; tries = t }

same_answer : (r q : Answer) → r.number ≡ q.number → r.frame ≡ q.frame → r.class ≡ q.class → r.looks ≡ q.looks → r.tries ≡ q.tries → r ≡ q
unfolding answer
same_answer r q a b d e f =
    ap (λ (x : ℕ). answer x r.frame r.class r.looks r.tries) a
    ∙ ap (λ (x : ℕ). answer q.number x r.class r.looks r.tries) b
    ∙ ap (λ (x : ℕ). answer q.number q.frame x r.looks r.tries) d
    ∙ ap (λ (x : ℕ). answer q.number q.frame q.class x r.tries) e
    ∙ ap (λ (x : ℕ). answer q.number q.frame q.class q.looks x) f

summary : ℕ → ℕ → ℕ → Summary
summary n f t = record { number = n; free = f; trees = t }

same-summary : (r q : Summary) → r.number ≡ q.number → r.free ≡ q.free → r.trees ≡ q.trees → r ≡ q
unfolding summary
same-summary r q a b d =
    ap (λ (x : ℕ). summary x r.free r.trees) a ∙ ap (λ (x : ℕ). summary q.number x r.trees) b ∙ ap (λ (x : ℕ). summary q.number q.free x) d

-- ---- the theorems: header, table, arguments and words before are the same; r and q are two answers, e and d the words after them, f and g the rows
module _ (h : Header) (pairs : List ℕ) (s : Words) where
  pub start-complete : (free : Bool) (r q : ℕ) (e d : Words) → StartNumber h pairs free s r e → StartNumber h pairs free s q d → (r ≡ q) × (e ≡ d)
  start-complete free r q e d P Q = told-once r q e d (P ∙ sym Q)

  pub get-complete : (name : Option ℕ) (a : Request) (r q : Answer) (e d : Words) → GetAnswer h pairs name a s r e → GetAnswer h pairs name a s q d → (r ≡ q) × (e ≡ d)
  get-complete name a r q e d P Q =
      let T = P ∙ sym Q in (
        same_answer r q (ap (λ (x : Told). x.number) T) (ap (λ (x : Told). x.frame) T) (ap (λ (x : Told). x.class) T) (ap (λ (x : Told). x.looks) T) (ap (λ (x : Told). x.tries) T),
        same-words e d (ap (λ (x : Told). x.trees) T) (ap (λ (x : Told). x.locals) T) (ap (λ (x : Told). x.bits) T),
      )

  pub put-complete : (f : ℕ) (a : Request) (r q : ℕ) (e d : Words) → PutNumber h pairs f a s r e → PutNumber h pairs f a s q d → (r ≡ q) × (e ≡ d)
  put-complete f a r q e d P Q = told-once r q e d (P ∙ sym Q)

  pub drain-complete : (r q : ℕ) (e d : Words) → DrainNumber h pairs s r e → DrainNumber h pairs s q d → (r ≡ q) × (e ≡ d)
  drain-complete r q e d P Q = told-once r q e d (P ∙ sym Q)

  pub statistics-complete : (rows : List Tally) (r q : Summary) (f g : List Tally) → StatisticsAnswer h pairs s rows r f → StatisticsAnswer h pairs s rows q g → (r ≡ q) × (f ≡ g)
  statistics-complete rows r q f g P Q =
      let T = P ∙ sym Q in (
        same-summary r q (ap (λ (x : Report). x.number) T) (ap (λ (x : Report). x.free) T) (ap (λ (x : Report). x.trees) T),
        ap (λ (x : Report). x.rows) T,
      )
