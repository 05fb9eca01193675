-- A call that is not Done, Memory or Stuck leaves the words, whatever they are, and what else it is lent. Assumes nothing.
use Rattle.std.specs.Prelude.{◌≡◌, refl, Bool, ◌≢◌, List, ℕ, ◌/◌, ◌^◌, eqb, length, Option, Result, Err, ⊤, Ok}
use Rattle.std.proofs.Common.{sym, ap, ◌∙◌, subst}
use Rattle.std.proofs.Math.Bool.{true, false}
use Rattle.rules.specs.Base.{pick, both, Out, out}
use Rattle.rules.specs.Words.{Config, config, tree_frames}
use Rattle.rules.specs.Policy.{accepted}
use Rattle.rules.specs.Lower.{held_in, has_tree, mark, lower_put}
use Rattle.rules.specs.declared.Header.{Header}
use Rattle.rules.specs.declared.Request.{Request}
use Rattle.rules_calls.specs.declared.Granted.{Granted}
use Rattle.rules_calls.specs.declared.Got.TheVariants as Got
use Rattle.rules_calls.specs.State.{State, Way, st, with_bits}
use Rattle.rules_calls.specs.Get.{routes}
use Rattle.rules_calls.specs.declared.Tally.{Tally}
use Rattle.rules_calls.specs.Standing.{lengths_exact, standing}
use Rattle.rules_calls.specs.Calls.{Told, fresh, outcome_of, told, tell_get, refusal, frame_of, close, get, on_given, put_to, put, drain_classes, close_drain, drain, start}
use Rattle.rules_calls.specs.Statistics.{Report, statistics}
use Rattle.rules_calls.specs.Promises.{Words, StartPromise}
use Rattle.law_calls.specs.Steps.{ifte-ind}
use Rattle.law_calls.specs.Answers.{unless-ind, standing-ind}
use Rattle.thm_complete.specs.Complete.{same-words, told-rows}
use Rattle.thm_sequence.specs.Demand.{Step, gets, puts, drains, reports, starts, Promised, number, number_got, found_in, left_in, LentLeft}
use Rattle.thm_sequence.proofs.Lent.{state-stays, others-left}
use Rattle.rules_calls.specs.declared.Refusal.{Refusal}

-- what a call that is not Done, Memory or Stuck tells has the words t, l and b
abbrev Left : List ℕ → List ℕ → List ℕ → Told → Type 0
Left t l b r = r.number ≢ 0 → r.number ≢ 7 → r.number ≢ 9 → (r.trees ≡ t) × ((r.locals ≡ l) × (r.bits ≡ b))

module _ (c : Config) (t l b : List ℕ) where
  close-left : (w : Way) → Left t l b (close w)
  unfolding close
  close-left (out (Got.Done f k) s) x y z = absurd (x refl)
  close-left (out Got.Missed s) x y z = absurd (y refl)
  close-left (out (Got.MissedAt i) s) x y z = absurd (y refl)
  close-left (out Got.Stuck s) x y z = absurd (z refl)

  get_left : (q : Request) (name : Option ℕ) → Left t l b (get c q name t l b)
  unfolding get
  get_left q name =
      standing-ind (Left t l b) c (fresh t l b) _
      (λ _. unless-ind (Left t l b) (refusal c q (frame_of name)) (fresh t l b) _ (λ n d x y z. (refl, (refl, refl))) (λ _. close-left (routes c q name (fresh t l b))))
      (λ _ x y z. (refl, (refl, refl)))

  -- the lower refuses a put and leaves the bitmap
  given-left : (z o f : ℕ) (next : State → State) → Left t l b (on_given (lower_put z b o f) (fresh t l b) next)
  unfolding on_given lower_put with_bits
  given-left z o f next = go (has_tree z b (f / tree_frames z)) (eqb (held_in b o (f / 2 ^ o)) (2 ^ o))
    where
      go : (i j : Bool) → Left t l b (on_given (pick i (pick j (out true (mark false b o (f / 2 ^ o))) (out false b)) (out false b)) (fresh t l b) next)
      go true true x y z = absurd (x refl)
      go true false x y z = (refl, (refl, refl))
      go false j x y z = (refl, (refl, refl))

  put-left : (q : Request) (f : ℕ) → Left t l b (put c q f t l b)
  unfolding put
  put-left q f =
      standing-ind (Left t l b) c (fresh t l b) _
      (λ _. unless-ind (Left t l b) (refusal c q f) (fresh t l b) _ (λ n d x y z. (refl, (refl, refl))) (λ _. given-left c.tree_order q.order f (put_to c q f q.local)))
      (λ _ x y z. (refl, (refl, refl)))

  drained-left : (w : Out Bool State) → Left t l b (close_drain w)
  unfolding close_drain
  drained-left (out true s) x y z = absurd (x refl)
  drained-left (out false s) x y z = absurd (z refl)

  drain-left : Left t l b (drain c t l b)
  unfolding drain
  drain-left = standing-ind (Left t l b) c (fresh t l b) _ (λ _. drained-left (drain_classes 8 c 0 (fresh t l b))) (λ _ x y z. (refl, (refl, refl)))

  start_left : (all_free : Bool) → Left t l b (start c all_free t l b)
  unfolding start
  start_left all_free = ifte-ind (Left t l b) (both (accepted c) (lengths_exact c t l b)) _ _ (λ _ x y z. absurd (x refl)) (λ _ x y z. (refl, (refl, refl)))

-- an answer and words that tell it
told-left : (r : Result ⊤ Refusal) (s e : Words) (d : Told) → told r e.trees e.locals e.bits ≡ d → Left s.trees s.locals s.bits d
    → outcome_of r ≢ 0 → outcome_of r ≢ 7 → outcome_of r ≢ 9 → e ≡ s
told-left r s e d P h x y z =
    let u = subst (Left s.trees s.locals s.bits) (sym P) h x y z in
    same-words e s u.0 u.1.0 u.1.1

got-left : (g : Result Granted Refusal) (s e : Words) (i k : ℕ) (d : Told) → tell_get g (st e.trees e.locals e.bits i k) ≡ d → Left s.trees s.locals s.bits d
    → number_got g ≢ 0 → number_got g ≢ 7 → number_got g ≢ 9 → e ≡ s
unfolding tell_get number_got
got-left (Ok u) s e i k d P h x y z = absurd (x refl)
got-left (Err w) s e i k d P h x y z =
    let u = subst (Left s.trees s.locals s.bits) (sym P) h x y z in
    same-words e s u.0 u.1.0 u.1.1

-- a start leaves the words that it is lent
start-kept : (d : Header) (table : List ℕ) (all_free : Bool) (s : Words) (r : Result ⊤ Refusal) (e : Words) → StartPromise d table all_free s r e
    → outcome_of r ≢ 0 → outcome_of r ≢ 7 → outcome_of r ≢ 9 → e ≡ s
start-kept d table all_free s r e P =
    told-left r s e (start (config d table) all_free s.trees s.locals s.bits) P (start_left (config d table) s.trees s.locals s.bits all_free)

-- a step of any call
pub step_left : (h : Header) (pairs : List ℕ) (x : Step) (s e : Words) → Promised h pairs x s e → number x ≢ 0 → number x ≢ 7 → number x ≢ 9 → e ≡ s
unfolding number
step_left h pairs (gets name q r) s e P =
    got-left r.granted s e r.looks r.tries (get (config h pairs) q name s.trees s.locals s.bits) P (get_left (config h pairs) s.trees s.locals s.bits q name)
step_left h pairs (puts f q r) s e P =
    told-left r s e (put (config h pairs) q f s.trees s.locals s.bits) P (put-left (config h pairs) s.trees s.locals s.bits q f)
step_left h pairs (drains r) s e P = told-left r s e (drain (config h pairs) s.trees s.locals s.bits) P (drain-left (config h pairs) s.trees s.locals s.bits)
step_left h pairs (reports rows r filled) s e P = λ x y z. P.1
step_left h pairs (starts d table all_free t l b r) s e P = λ x y z. state-stays t l b s e (start-kept d table all_free (found_in t l b s) r (left_in t l b e) P.0 x y z) P.1

-- statistics that are refused leave the rows
rows-as-lent : (c : Config) (ts ls bs : List ℕ) (rows : List Tally) → (statistics c ts ls bs rows).number ≢ 0 → (statistics c ts ls bs rows).rows ≡ rows
unfolding statistics
rows-as-lent c ts ls bs rows =
    ifte-ind (λ (r : Report). r.number ≢ 0 → r.rows ≡ rows) (standing c ts ls bs) _ _
    (λ _. ifte-ind (λ (r : Report). r.number ≢ 0 → r.rows ≡ rows) (eqb (length rows) 8) _ _ (λ _ x. absurd (x refl)) (λ _ x. refl))
    (λ _ x. refl)

-- and a refused call what else it is lent
pub lent-left : (h : Header) (pairs : List ℕ) (x : Step) (s e : Words) → Promised h pairs x s e → number x ≢ 0 → number x ≢ 7 → number x ≢ 9 → LentLeft x
unfolding number
lent-left h pairs (gets name q r) s e P x y z = tt
lent-left h pairs (puts f q r) s e P x y z = tt
lent-left h pairs (drains r) s e P x y z = tt
lent-left h pairs (reports rows r filled) s e P x y z =
    sym (told-rows r filled) ∙ ap (λ (u : Report). u.rows) P.0 ∙ rows-as-lent (config h pairs) s.trees s.locals s.bits rows (λ n. x (ap (λ (u : Report). u.number) P.0 ∙ n))
lent-left h pairs (starts d table all_free t l b r) s e P x y z = others-left t l b s e (start-kept d table all_free (found_in t l b s) r (left_in t l b e) P.0 x y z)
