-- The theorems on chains of calls: demand 3, no call is Stuck, a call that is not Done, Memory or Stuck changes nothing. Assumes nothing.
use Rattle.std.specs.Prelude.{◌≡◌, refl, Bool, ℕ, zero, suc, ◌+◌, ◌≤◌, eqb, Result, ⊤}
use Rattle.std.proofs.Common.{sym, ◌∙◌, arith}
use Rattle.std.proofs.Math.Path.{ap, subst}
use mathlib.Core.List.{List, [], ◌∷◌}
use Rattle.rules.specs.Base.{bit_of}
use Rattle.rules.specs.Words.{Config, config}
use Rattle.rules.specs.Lower.{bit, clear}
use Rattle.rules.specs.declared.Header.{Header}
use Rattle.rules_calls.specs.Calls.{outcome_of}
use Rattle.rules_calls.specs.Promises.{Words, StartPromise}
use Rattle.law_rules.specs.Held.{bit_le}
use Rattle.law_rules.specs.Clear.{clear-held}
use Rattle.law_rules.specs.Sizes.{size-eleven}
use Rattle.thm_hand.specs.Hand.{Kept}
use Rattle.thm_keeps.specs.Standing.{kept_test, test-kept}
use Rattle.thm_sequence.specs.Demand.{Step, gets, puts, drains, reports, starts, found_in, left_in, Chain, number, NoRestart, handed_out, given_back, held_at_start, held_after_get, held_after_put, NoneTwice, NoneBroken, NoneStuck, Demand3, Sequence, NeverStuck, FromStanding, OthersUnchanged}
use Rattle.thm_sequence.proofs.Blocks.{reserved-is}
use Rattle.thm_sequence.proofs.Refused.{step_left, lent-left}
use Rattle.thm_sequence.proofs.Steps.{Agreed, get-step, put_step, drain-step, count-step, refused-start, start-step}
use Rattle.rules_calls.specs.declared.Refusal.{Refusal}

-- the whole chain, from words where the rules and the ledger agree
pub record AllSteps (z : ℕ) (c : Config) (held : ℕ → Bool) (s : Words) (xs : List Step) (e : Words) : Type 0 where
  pub kept : (h : ℕ → Bool) × Agreed c h e
  pub tally : (t : ℕ) → clear z e.bits t + handed_out z t xs ≡ clear z s.bits t + given_back z t xs
  pub once : NoneTwice held xs
  pub unbroken : NoneBroken xs
  pub unstuck : NoneStuck xs

module _ (h : Header) (pairs : List ℕ) where
  all-steps : (held : ℕ → Bool) (s : Words) (xs : List Step) (e : Words) → Agreed (config h pairs) held s → NoRestart xs → Chain h pairs xs s e → AllSteps 11 (config h pairs) held s xs e
  unfolding handed_out given_back number
  all-steps held s [] e A n C =
      record { kept = (held, subst (Agreed (config h pairs) held) (sym C) A); tally = λ t. ap (λ (x : Words). clear 11 x.bits t + 0) C; once = tt; unbroken = tt; unstuck = tt }
  all-steps held s (gets name q r ∷ xs) e A n (m, (P, C)) =
      let G = get-step (config h pairs) size-eleven held s A q name r.granted m r.looks r.tries P in
      let R = all-steps (held_after_get held q.order r.granted) m xs e G.after n C in
      record {
        kept = R.kept;
        tally = λ t. omega (arith, R.tally t, G.counts t);
        once = (G.once, R.once);
        unbroken = (G.sound, R.unbroken);
        unstuck = (G.loose, R.unstuck);
      }
  all-steps held s (puts f q r ∷ xs) e A n (m, (P, C)) =
      let G = put_step (config h pairs) size-eleven held s A q f r m P in
      let R = all-steps (held_after_put held q.order f r) m xs e G.after n C in
      record {
        kept = R.kept;
        tally = λ t. omega (arith, R.tally t, G.counts t);
        once = (G.once, R.once);
        unbroken = (G.sound, R.unbroken);
        unstuck = (G.loose, R.unstuck);
      }
  all-steps held s (drains r ∷ xs) e A n (m, (P, C)) =
      let G = drain-step (config h pairs) size-eleven held s A r m P in
      let R = all-steps held m xs e G.after n C in
      record {
        kept = R.kept;
        tally = λ t. omega (arith, R.tally t, G.counts t);
        once = R.once;
        unbroken = (λ z. omega (arith, z, G.done), R.unbroken);
        unstuck = (λ z. omega (arith, z, G.done), R.unstuck);
      }
  all-steps held s (reports rows r filled ∷ xs) e A n (m, (P, C)) =
      let G = count-step (config h pairs) size-eleven held s A rows r filled P.0 in
      let R = all-steps held m xs e (subst (Agreed (config h pairs) held) (sym P.1) A) n C in
      record {
        kept = R.kept;
        tally = λ t. R.tally t ∙ ap (λ (x : Words). clear 11 x.bits t + given_back 11 t xs) P.1;
        once = R.once;
        unbroken = (G.0, R.unbroken);
        unstuck = (G.1, R.unstuck);
      }
  all-steps held s (starts d table all_free t l b r ∷ xs) e A n (m, (P, C)) =
      let G = refused-start (config d table) all_free (found_in t l b s) r (left_in t l b m) P.0 n.0 in
      let same : m ≡ s = step_left h pairs (starts d table all_free t l b r) s m P n.0 (λ z. omega (arith, z, G)) (λ z. omega (arith, z, G)) in
      let R = all-steps held m xs e (subst (Agreed (config h pairs) held) (sym same) A) n.1 C in
      record {
        kept = R.kept;
        tally = λ t. R.tally t ∙ ap (λ (x : Words). clear 11 x.bits t + given_back 11 t xs) same;
        once = R.once;
        unbroken = (λ z. omega (arith, z, G), R.unbroken);
        unstuck = (λ z. omega (arith, z, G), R.unstuck);
      }

  -- after an accepted start
  module _ (all_free : Bool) (s0 s : Words) (r : Result ⊤ Refusal) (P : StartPromise h pairs all_free s0 r s) (z : outcome_of r ≡ 0) where
    from_start : (xs : List Step) (e : Words) → NoRestart xs → Chain h pairs xs s e → AllSteps 11 (config h pairs) (held_at_start all_free h.frames) s xs e
    from_start xs e n C = all-steps (held_at_start all_free h.frames) s xs e (start-step (config h pairs) size-eleven all_free s0 r s P z).begins n C

    demanded : (xs : List Step) (e : Words) → NoRestart xs → Chain h pairs xs s e → Demand3 11 h.frames all_free xs e
    demanded xs e n C =
        let R = from_start xs e n C in
        let K : Kept (config h pairs) e.trees e.locals e.bits = R.kept.1.kept in
        record {
          conserved = λ t lt.
              omega (
                arith,
                K.sum t lt,
                reserved-is 11 e.locals t,
                clear-held 11 e.bits t size-eleven.least,
                R.tally t,
                (start-step (config h pairs) size-eleven all_free s0 r s P z).counts t lt,
              );
          once = R.once;
          unbroken = R.unbroken;
        }

-- a bit that is 1 is held
as-held : (n : ℕ) → n ≤ 1 → bit_of (eqb n 1) ≡ n
as-held zero h = refl
as-held (suc zero) h = refl
as-held (suc (suc n)) h = absurd (omega arith)

-- ---- the theorems

-- demand 3
pub sequence : Sequence
sequence h pairs all_free s0 s e r xs P z n C = demanded h pairs all_free s0 s r P z xs e n C

-- no call answers Stuck
pub never_stuck : NeverStuck
never_stuck h pairs all_free s0 s e r xs P z n C = (from_start h pairs all_free s0 s r P z xs e n C).unstuck

-- from words that pass the state test: never Broken, never Stuck, and the test passes after it
pub from-standing : FromStanding
from-standing h pairs s e xs S w n C =
    let K : Kept (config h pairs) s.trees s.locals s.bits = test-kept (config h pairs) size-eleven s.trees s.locals s.bits w S in
    let R = all-steps h pairs (λ x. eqb (bit s.bits x) 1) s xs e (record { kept = K; agree = λ x lt. as-held (bit s.bits x) (bit_le s.bits x) }) n C in
    ((R.unbroken, R.unstuck), kept_test (config h pairs) size-eleven e.trees e.locals e.bits R.kept.1.kept)

-- from any words: a call that is not Done, Memory or Stuck leaves them, and what else it is lent
pub others-unchanged : OthersUnchanged
others-unchanged h pairs x s e P a b d = (step_left h pairs x s e P a b d, lent-left h pairs x s e P a b d)
