-- What a drain that is Done leaves, from any words. The statement alone; its proof is in Drains. Assumes nothing.
use Rattle.std.specs.Prelude.{◌≡◌, false, List, ℕ, ◌^◌, ◌<◌, get_or, Result, ⊤}
use Rattle.rules.specs.Words.{tree_count, entry_at}
use Rattle.rules.specs.Lower.{clear}
use Rattle.rules.specs.declared.Header.{Header}
use Rattle.rules_calls.specs.Calls.{outcome_of}
use Rattle.rules_calls.specs.Promises.{Words, DrainPromise}
use Rattle.rules_calls.specs.declared.Refusal.{Refusal}

-- of so many frames, the words s before and e after: every reservation was returned to its tree
pub record DrainLeaves (z frames : ℕ) (s e : Words) : Type 0 where
  -- every local word is 0
  pub locals : (j : ℕ) → get_or e.locals j 0 ≡ 0
  -- no entry is reserved
  pub unreserved : (t : ℕ) → t < tree_count z frames → (entry_at e.trees t).reserved ≡ false
  -- each entry's free is the number of clear bits of its tree
  pub free : (t : ℕ) → t < tree_count z frames → (entry_at e.trees t).free ≡ clear z e.bits t
  -- no bit changes
  pub bits : e.bits ≡ s.bits

-- a drain that answers Done leaves that, tree words being words of 32 bits
abbrev pub DrainDone : Type 0
DrainDone = (h : Header) (pairs : List ℕ) (s : Words) (r : Result ⊤ Refusal) (e : Words)
    → DrainPromise h pairs s r e → outcome_of r ≡ 0 → ((t : ℕ) → get_or s.trees t 0 < 2 ^ 32)
    → DrainLeaves 11 h.frames s e
