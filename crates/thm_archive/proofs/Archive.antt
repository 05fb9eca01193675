-- A chain of the archive's calls is a chain of the promises: so demand 3 holds of it. Assumes nothing.
use Rattle.std.specs.Prelude.{◌≡◌, refl, Bool, true, false, ◌⊎◌, List, [], ◌∷◌, ℕ, zero, suc, ◌≤◌, eqb, length, Option}
use Rattle.std.proofs.Common.{sym, ap, ap₂, ◌∙◌, subst, inl}
use Rattle.std.proofs.Math.Logic.{inr, ⊎_elim}
use native.Mathlib.Omega.{arith}
use Rattle.rules.specs.Base.{both, Out, out}
use Rattle.rules.specs.Words.{Config, config}
use Rattle.rules.specs.Lower.{lower_put}
use Rattle.rules.specs.Policy.{accepted}
use Rattle.rules.specs.declared.Header.{Header}
use Rattle.rules.specs.declared.Request.{Request}
use Rattle.rules_calls.specs.declared.Got.TheVariants as Got
use Rattle.rules_calls.specs.State.{State, st, Way}
use Rattle.rules_calls.specs.Standing.{standing, lengths_exact}
use Rattle.rules_calls.specs.Get.{routes}
use Rattle.rules_calls.specs.Calls.{Told, telling, fresh, outcome_of, tell_get, told, refusal, close, frame_of, get, on_given, put, drain_classes, close_drain, drain, start}
use Rattle.rules_calls.specs.declared.Tally.{Tally}
use Rattle.rules_calls.specs.Statistics.{Report, reporting, told_totals, statistics}
use Rattle.rules_calls.specs.Promises.{Words}
use Rattle.law_calls.specs.Steps.{ifte-ind}
use Rattle.law_calls.specs.Checked.{refusal-range}
use Rattle.law_calls.specs.Answers.{unless-ind, standing-ind}
use Rattle.thm_complete.specs.Complete.{number-back}
use Rattle.thm_sequence.specs.Demand.{found_in, left_in, Promised, Chain}
use Rattle.thm_sequence.proofs.Sequence.{sequence, never_stuck}
use Rattle.c_forms.specs.declared.Summary.{Summary}
use Rattle.thm_archive.specs.Chains.{Call, gets, puts, drains, reports, starts, Answered, Calls, outcome_from, granted_from, totals_from, step_of, steps, ArchiveSequence}

-- ---- what a call tells: a number up to 11, and of a get that is refused no frame and no class
abbrev Few : Told → Type 0
Few r = r.number ≤ 11

abbrev Plain : Told → Type 0
Plain r = (r.number ≡ 0) ⊎ ((r.number ≤ 11) × ((r.frame ≡ 0) × (r.class ≡ 0)))

-- and of statistics that are refused zeros
abbrev Zeros : Report → Type 0
Zeros r = (r.number ≡ 0) ⊎ ((r.number ≤ 11) × ((r.free ≡ 0) × (r.trees ≡ 0)))

close-plain : (w : Way) → Plain (close w)
unfolding close
close-plain (out (Got.Done f k) s) = inl refl
close-plain (out Got.Missed s) = inr (omega arith, (refl, refl))
close-plain (out (Got.MissedAt t) s) = inr (omega arith, (refl, refl))
close-plain (out Got.Stuck s) = inr (omega arith, (refl, refl))

given-few : (o : Out Bool (List ℕ)) (s : State) (next : State → State) → Few (on_given o s next)
unfolding on_given
given-few (out true b) s next = omega arith
given-few (out false b) s next = omega arith

drained-few : (w : Out Bool State) → Few (close_drain w)
unfolding close_drain
drained-few (out true s) = omega arith
drained-few (out false s) = omega arith

module _ (c : Config) (t l b : List ℕ) where
  get-plain : (q : Request) (name : Option ℕ) → Plain (get c q name t l b)
  unfolding get
  get-plain q name =
      standing-ind Plain c (fresh t l b) _
      (λ _. unless-ind Plain (refusal c q (frame_of name)) (fresh t l b) _
      (λ n e. inr (⊎_elim (λ z. omega (arith, e, z)) (λ z. omega (arith, e, z.1)) (refusal-range c q (frame_of name)), (refl, refl)))
      (λ _. close-plain (routes c q name (fresh t l b))))
      (λ _. inr (omega arith, (refl, refl)))

  put-few : (q : Request) (f : ℕ) → Few (put c q f t l b)
  unfolding put
  put-few q f =
      standing-ind Few c (fresh t l b) _
      (λ _. unless-ind Few (refusal c q f) (fresh t l b) _
      (λ n e. ⊎_elim (λ z. omega (arith, e, z)) (λ z. omega (arith, e, z.1)) (refusal-range c q f))
      (λ _. given-few (lower_put c.tree_order b q.order f) (fresh t l b) _))
      (λ _. omega arith)

  drain-few : Few (drain c t l b)
  unfolding drain
  drain-few = standing-ind Few c (fresh t l b) _ (λ _. drained-few (drain_classes 8 c 0 (fresh t l b))) (λ _. omega arith)

  start-few : (free : Bool) → Few (start c free t l b)
  unfolding start
  start-few free = ifte-ind Few (both (accepted c) (lengths_exact c t l b)) _ _ (λ _. omega arith) (λ _. omega arith)

  statistics-few : (rows : List Tally) → Zeros (statistics c t l b rows)
  unfolding statistics
  statistics-few rows =
      ifte-ind Zeros (standing c t l b) _ _
      (λ _. ifte-ind Zeros (eqb (length rows) 8) _ _ (λ _. inl refl) (λ _. inr (omega arith, (refl, refl))))
      (λ _. inr (omega arith, (refl, refl)))

-- ---- a number that is told is that of its outcome
outcome-back : (n : ℕ) → n ≤ 11 → outcome_of (outcome_from n) ≡ n
unfolding outcome_of
outcome-back zero h = refl
outcome-back (suc n) h = number-back (suc n) (omega arith) h

told_back : (n : ℕ) (e : Words) (r : Told) → Few r → telling n 0 0 (fresh e.trees e.locals e.bits) ≡ r → told (outcome_from n) e.trees e.locals e.bits ≡ r
told_back n e r few P =
    let h : n ≤ 11 = omega (arith, few, ap (λ (x : Told). x.number) P) in
    ap (λ (x : ℕ). telling x 0 0 (fresh e.trees e.locals e.bits)) (outcome-back n h) ∙ P

granted-back : (n f k : ℕ) (s : State) → (n ≡ 0) ⊎ ((n ≤ 11) × ((f ≡ 0) × (k ≡ 0))) → tell_get (granted_from n f k) s ≡ telling n f k s
unfolding tell_get
granted-back zero f k s p = refl
granted-back (suc n) f k s (inl z) = absurd (omega arith)
granted-back (suc n) f k s (inr (h, (p, q))) =
    ap (λ (x : ℕ). telling x 0 0 s) (number-back (suc n) (omega arith) h) ∙ ap₂ (λ (x y : ℕ). telling (suc n) x y s) (sym p) (sym q)

report-back : (n f t : ℕ) (filled : List Tally) (x : Report) → Zeros x → reporting n f t filled ≡ x → told_totals (totals_from n f t) filled ≡ x
report-back zero f t filled x few P = P
report-back (suc n) f t filled x (inl z) P = absurd (omega (arith, z, ap (λ (y : Report). y.number) P))
report-back (suc n) f t filled x (inr (h, (p, q))) P =
    ap (λ (m : ℕ). reporting m 0 0 filled) (number-back (suc n) (omega arith) (omega (arith, h, ap (λ (y : Report). y.number) P)))
    ∙ ap₂ (λ (a b : ℕ). reporting (suc n) a b filled) (sym (ap (λ (y : Report). y.free) P ∙ p)) (sym (ap (λ (y : Report). y.trees) P ∙ q)) ∙ P

module _ (h : Header) (pairs : List ℕ) where
  -- a call that satisfies its promise satisfies that of the function in Rattle
  promised : (x : Call) (s e : Words) → Answered h pairs x s e → Promised h pairs (step_of x) s e
  promised (gets name q r) s e P =
      granted-back r.number r.frame r.class (st e.trees e.locals e.bits r.looks r.tries)
      (subst Plain (sym P) (get-plain (config h pairs) s.trees s.locals s.bits q name)) ∙ P
  promised (puts f q r) s e P = told_back r e _ (put-few (config h pairs) s.trees s.locals s.bits q f) P
  promised (drains r) s e P = told_back r e _ (drain-few (config h pairs) s.trees s.locals s.bits) P
  promised (reports rows r filled) s e (P, d) = (report-back r.number r.free r.trees filled _ (statistics-few (config h pairs) s.trees s.locals s.bits rows) P, d)
  promised (starts d table free t l b r) s e (P, A) = (
    told_back r (left_in t l b e) _ (start-few (config d table) (found_in t l b s).trees (found_in t l b s).locals (found_in t l b s).bits free) P,
    A,
  )

  -- and so every call of a chain
  pub archive-chain : (xs : List Call) (s e : Words) → Calls h pairs xs s e → Chain h pairs (steps xs) s e
  archive-chain [] s e C = C
  archive-chain (x ∷ xs) s e (m, (P, C)) = (m, (promised x s m P, archive-chain xs m e C))

-- demand 3, and no call is Stuck
pub archive-sequence : ArchiveSequence
unfolding outcome_of
archive-sequence h pairs free s0 s e xs P n C =
    let S = told_back 0 s _ (start-few (config h pairs) s0.trees s0.locals s0.bits free) P in
    let D = archive-chain h pairs xs s e C in
    (D, (sequence h pairs free s0 s e (outcome_from 0) (steps xs) S refl n D, never_stuck h pairs free s0 s e (outcome_from 0) (steps xs) S refl n D))
