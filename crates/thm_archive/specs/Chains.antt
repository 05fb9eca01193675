-- Demand 3 for the archive: chains of its calls, and the same chains with outcomes where the archive answers numbers. Assumes nothing.
use Rattle.std.specs.Prelude.{◌≡◌, Bool, List, [], ◌∷◌, ℕ, zero, suc, Option, Result, Ok, Err, ⊤}
use Rattle.rules.specs.declared.Header.{Header}
use Rattle.rules.specs.declared.Request.{Request}
use Rattle.rules_calls.specs.declared.Granted.{Granted}
use Rattle.rules_calls.specs.declared.Tally.{Tally}
use Rattle.rules_calls.specs.declared.Totals.{Totals}
use Rattle.rules_calls.specs.Promises.{Words}
use Rattle.thm_complete.specs.Complete.{refusal_of}
use Rattle.thm_sequence.specs.Demand.{Lent, Step, found_in, left_in, UntouchedIn, Chain, NoRestart, NoneStuck, Demand3}
use Rattle.thm_sequence.specs.Demand as Demand
use Rattle.c_numbers.specs.declared.Answer.{Answer}
use Rattle.c_forms.specs.declared.Summary.{Summary}
use Rattle.llfree_c.specs.Promises.{StartNumber, GetAnswer, PutNumber, DrainNumber, StatisticsAnswer}
use Rattle.rules_calls.specs.declared.Refusal.{Refusal}

-- ---- a chain of the archive's calls, each on the words as the call before left them

-- a call, as the caller sees it: what was asked, and the numbers that were answered; of statistics also the rows lent and the rows after. A start in the chain names a
-- header and a table of its own, and is lent tree words, local words and bitmap words, each the state's or others
pub data Call : Type 0 where
  gets : Option ℕ → Request → Answer → Call
  puts : ℕ → Request → ℕ → Call
  drains : ℕ → Call
  reports : List Tally → Summary → List Tally → Call
  starts : Header → List ℕ → Bool → Lent → Lent → Lent → ℕ → Call

-- from the words s to the words e the call satisfies the promise of the archive's function
abbrev pub Answered : Header → List ℕ → Call → Words → Words → Type 0
Answered h pairs (gets name q r) s e = GetAnswer h pairs name q s r e
Answered h pairs (puts f q r) s e = PutNumber h pairs f q s r e
Answered h pairs (drains r) s e = DrainNumber h pairs s r e
Answered h pairs (reports rows r filled) s e = StatisticsAnswer h pairs s rows r filled × (e ≡ s)
Answered h pairs (starts h' pairs' free t l b r) s e = StartNumber h' pairs' free (found_in t l b s) r (left_in t l b e) × UntouchedIn t l b s e

-- every call of the chain
abbrev pub Calls : Header → List ℕ → List Call → Words → Words → Type 0
Calls h pairs [] s e = e ≡ s
Calls h pairs (x ∷ xs) s e = (m : Words) × (Answered h pairs x s m × Calls h pairs xs m e)

-- ---- numbers as outcomes

-- 0 is Done, another number is that of a refusal
abbrev pub outcome_from : ℕ → Result ⊤ Refusal
outcome_from zero = Ok tt
outcome_from (suc n) = Err (refusal_of (suc n))

-- of a get, with its frame and class
abbrev pub granted_from : ℕ → ℕ → ℕ → Result Granted Refusal
granted_from zero f k = Ok (record { frame = f; class = k })
granted_from (suc n) f k = Err (refusal_of (suc n))

-- of statistics, with total free and free trees
abbrev pub totals_from : ℕ → ℕ → ℕ → Result Totals Refusal
totals_from zero f t = Ok (record { free = f; trees = t })
totals_from (suc n) f t = Err (refusal_of (suc n))

-- the call as a step of the chains of crate `thm_sequence`
abbrev pub step_of : Call → Step
step_of (gets name q r) = Demand.gets name q (record { granted = granted_from r.number r.frame r.class; looks = r.looks; tries = r.tries })
step_of (puts f q r) = Demand.puts f q (outcome_from r)
step_of (drains r) = Demand.drains (outcome_from r)
step_of (reports rows r filled) = Demand.reports rows (totals_from r.number r.free r.trees) filled
step_of (starts h pairs free t l b r) = Demand.starts h pairs free t l b (outcome_from r)

-- all of them
abbrev pub steps : List Call → List Step
steps [] = []
steps (x ∷ xs) = step_of x ∷ steps xs

-- ---- the statement

-- a start that answers 0, then any chain of the archive's calls with no further accepted start: as steps they are a chain of the exported calls' own promises, so that the
-- outcomes are those that the numbers mean; and demand 3 holds, and no call is Stuck
abbrev pub ArchiveSequence : Type 0
ArchiveSequence = (h : Header) (pairs : List ℕ) (free : Bool) (s0 s e : Words) (xs : List Call)
    → StartNumber h pairs free s0 0 s → NoRestart (steps xs) → Calls h pairs xs s e
    → Chain h pairs (steps xs) s e × (Demand3 11 h.frames free (steps xs) e × NoneStuck (steps xs))
