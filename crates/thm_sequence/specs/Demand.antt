-- Demand 3: over any finite sequence of calls after an accepted start, nothing drifts. Chains of calls, the ledger of calls and answers, the statements. Assumes nothing.
use Rattle.rules_calls.specs.Statistics.{told_totals}
use Rattle.std.specs.Prelude.{◌≡◌, Bool, true, false, not, List, [], ◌∷◌, ℕ, ◌+◌, ◌-◌, ◌*◌, ◌/◌, ◌^◌, ◌<◌, eqb, leb, ltb, get_or, length, Option, Result, Ok, Err, ⊤}
use Rattle.rules.specs.Base.{pick, both, either, sum}
use Rattle.rules.specs.Words.{config, tree_frames, tree_count, entry_at, local_at}
use Rattle.rules.specs.declared.Header.{Header}
use Rattle.rules.specs.declared.Request.{Request}
use Rattle.rules_calls.specs.declared.Granted.{Granted}
use Rattle.rules_calls.specs.declared.Reply.{Reply}
use Rattle.rules_calls.specs.declared.Tally.{Tally}
use Rattle.rules_calls.specs.declared.Totals.{Totals}
use Rattle.rules_calls.specs.Standing.{tree_on, standing}
use Rattle.rules_calls.specs.Calls.{number_of, outcome_of, free_at_start, at_most}
use Rattle.rules_calls.specs.Promises.{Words, words, StartPromise, GetPromise, PutPromise, DrainPromise, StatisticsPromise}
use Rattle.rules_calls.specs.declared.Refusal.{Refusal}

-- ---- a chain of calls, each on the words as the call before left them

-- one of the lists that a start in the chain is lent: the state's own, or another, of any length, as it is before and after the call
pub data Lent : Type 0 where
  own : Lent
  other : List ℕ → List ℕ → Lent

-- a call, as the caller sees it: what was asked, and what was answered. A start in the chain names a header and a table of its own, and is lent tree words, local words
-- and bitmap words, each the state's or others
pub data Step : Type 0 where
  gets : Option ℕ → Request → Reply → Step
  puts : ℕ → Request → Result ⊤ Refusal → Step
  drains : Result ⊤ Refusal → Step
  reports : List Tally → Result Totals Refusal → List Tally → Step
  starts : Header → List ℕ → Bool → Lent → Lent → Lent → Result ⊤ Refusal → Step

-- the list that a start finds, where the state's is xs
abbrev pub found : Lent → List ℕ → List ℕ
found own xs = xs
found (other before after) xs = before

-- the list that it leaves, where the state's is then ys
abbrev pub left : Lent → List ℕ → List ℕ
left own ys = ys
left (other before after) ys = after

-- where another list is lent, the state's is untouched
abbrev pub Untouched : Lent → List ℕ → List ℕ → Type 0
Untouched own xs ys = Unit {0}
Untouched (other before after) xs ys = ys ≡ xs

-- so of the three lists: what a start finds, where the state is s
abbrev pub found_in : Lent → Lent → Lent → Words → Words
found_in t l b s = words (found t s.trees) (found l s.locals) (found b s.bits)

-- what it leaves, where the state is then e
abbrev pub left_in : Lent → Lent → Lent → Words → Words
left_in t l b e = words (left t e.trees) (left l e.locals) (left b e.bits)

-- and what of the state is untouched
abbrev pub UntouchedIn : Lent → Lent → Lent → Words → Words → Type 0
UntouchedIn t l b s e = Untouched t s.trees e.trees × (Untouched l s.locals e.locals × Untouched b s.bits e.bits)

-- from the words s to the words e the step satisfies the promise of the function that was called
abbrev pub Promised : Header → List ℕ → Step → Words → Words → Type 0
Promised h pairs (gets name q r) s e = GetPromise h pairs name q s r e
Promised h pairs (puts f q r) s e = PutPromise h pairs f q s r e
Promised h pairs (drains r) s e = DrainPromise h pairs s r e
Promised h pairs (reports rows r filled) s e = StatisticsPromise h pairs s rows r filled × (e ≡ s)
Promised h pairs (starts h' pairs' all_free t l b r) s e = StartPromise h' pairs' all_free (found_in t l b s) r (left_in t l b e) × UntouchedIn t l b s e

-- every step of the chain
abbrev pub Chain : Header → List ℕ → List Step → Words → Words → Type 0
Chain h pairs [] s e = e ≡ s
Chain h pairs (x ∷ xs) s e = (m : Words) × (Promised h pairs x s m × Chain h pairs xs m e)

-- ---- what the caller saw of a step

-- the outcome's number
unfoldable pub number_got : Result Granted Refusal → ℕ
number_got (Ok g) = 0
number_got (Err x) = number_of x

-- of any step
unfoldable pub number : Step → ℕ
number (gets name q r) = number_got r.granted
number (puts f q r) = outcome_of r
number (drains r) = outcome_of r
number (reports rows r filled) = (told_totals r filled).number
number (starts h pairs all_free t l b r) = outcome_of r

-- no start in the chain was accepted, whatever it was lent
abbrev pub NoRestart : List Step → Type 0
NoRestart [] = Unit {0}
NoRestart (gets name q r ∷ xs) = NoRestart xs
NoRestart (puts f q r ∷ xs) = NoRestart xs
NoRestart (drains r ∷ xs) = NoRestart xs
NoRestart (reports rows r filled ∷ xs) = NoRestart xs
NoRestart (starts h pairs all_free t l b r ∷ xs) = (outcome_of r ≡ 0 → ⊥) × NoRestart xs

-- ---- the ledger, from the calls and their answers alone

-- 2^order where the block of that frame lies in tree t, else 0
unfoldable pub frames_in : ℕ → ℕ → ℕ → ℕ → ℕ
frames_in z t o f = pick (eqb (f / tree_frames z) t) (2 ^ o) 0

-- frames of tree t that an accepted get handed out
unfoldable pub handed : ℕ → ℕ → ℕ → Result Granted Refusal → ℕ
handed z t o (Ok g) = frames_in z t o g.frame
handed z t o (Err x) = 0

-- frames of tree t that an accepted put gave back
unfoldable pub gave_back : ℕ → ℕ → ℕ → ℕ → Result ⊤ Refusal → ℕ
gave_back z t o f (Ok u) = frames_in z t o f
gave_back z t o f (Err x) = 0

-- frames of tree t handed out in all
unfoldable pub handed_out : ℕ → ℕ → List Step → ℕ
handed_out z t [] = 0
handed_out z t (gets name q r ∷ xs) = handed z t q.order r.granted + handed_out z t xs
handed_out z t (puts f q r ∷ xs) = handed_out z t xs
handed_out z t (drains r ∷ xs) = handed_out z t xs
handed_out z t (reports rows r filled ∷ xs) = handed_out z t xs
handed_out z t (starts h pairs all_free ts ls bs r ∷ xs) = handed_out z t xs

-- frames of tree t given back in all
unfoldable pub given_back : ℕ → ℕ → List Step → ℕ
given_back z t [] = 0
given_back z t (gets name q r ∷ xs) = given_back z t xs
given_back z t (puts f q r ∷ xs) = gave_back z t q.order f r + given_back z t xs
given_back z t (drains r ∷ xs) = given_back z t xs
given_back z t (reports rows r filled ∷ xs) = given_back z t xs
given_back z t (starts h pairs all_free ts ls bs r ∷ xs) = given_back z t xs

-- frame x lies in the block of order o at frame f
unfoldable pub in_block : ℕ → ℕ → ℕ → Bool
in_block o f x = both (leb f x) (ltb x (f + 2 ^ o))

-- held by the ledger: at the start what is not free, frames at and past F too
unfoldable pub held_at_start : Bool → ℕ → ℕ → Bool
held_at_start all_free frames x = leb (free_at_start all_free frames) x

-- and then what an accepted get hands out
unfoldable pub held_after_get : (ℕ → Bool) → ℕ → Result Granted Refusal → ℕ → Bool
held_after_get held o (Ok g) x = either (in_block o g.frame x) (held x)
held_after_get held o (Err r) x = held x

-- less what an accepted put gives back
unfoldable pub held_after_put : (ℕ → Bool) → ℕ → ℕ → Result ⊤ Refusal → ℕ → Bool
held_after_put held o f (Ok u) x = both (not (in_block o f x)) (held x)
held_after_put held o f (Err r) x = held x

-- an accepted get's block has no frame that is held already
abbrev pub NotYetHeld : (ℕ → Bool) → ℕ → Result Granted Refusal → Type 0
NotYetHeld held o (Ok g) = (x : ℕ) → in_block o g.frame x ≡ true → held x ≡ false
NotYetHeld held o (Err r) = Unit {0}

-- an accepted put's block has no frame that is not held
abbrev pub AllHeld : (ℕ → Bool) → ℕ → ℕ → Result ⊤ Refusal → Type 0
AllHeld held o f (Ok u) = (x : ℕ) → in_block o f x ≡ true → held x ≡ true
AllHeld held o f (Err r) = Unit {0}

-- so at each step, with what the ledger holds before it
abbrev pub NoneTwice : (ℕ → Bool) → List Step → Type 0
NoneTwice held [] = Unit {0}
NoneTwice held (gets name q r ∷ xs) = NotYetHeld held q.order r.granted × NoneTwice (held_after_get held q.order r.granted) xs
NoneTwice held (puts f q r ∷ xs) = AllHeld held q.order f r × NoneTwice (held_after_put held q.order f r) xs
NoneTwice held (drains r ∷ xs) = NoneTwice held xs
NoneTwice held (reports rows r filled ∷ xs) = NoneTwice held xs
NoneTwice held (starts h pairs all_free t l b r ∷ xs) = NoneTwice held xs

-- no call answers Broken
abbrev pub NoneBroken : List Step → Type 0
NoneBroken [] = Unit {0}
NoneBroken (x ∷ xs) = (number x ≡ 1 → ⊥) × NoneBroken xs

-- ---- the statement

-- the count of the reservation on tree t, if there is one
unfoldable pub reserved_on : ℕ → List ℕ → ℕ → ℕ
reserved_on z ls t =
    sum (λ j. pick (local_at ls j).present (pick (eqb (tree_on z (local_at ls j)) t) (local_at ls j).free 0) 0) 0 (length ls)

-- the frames of tree t that are free where the first f frames are
unfoldable pub free_in : ℕ → ℕ → ℕ → ℕ
free_in z f t = at_most (tree_frames z) (f - tree_frames z * t)

-- after an accepted start with so many frames, the steps xs left the words e
pub record Demand3 (z frames : ℕ) (all_free : Bool) (xs : List Step) (e : Words) : Type 0 where
  -- each tree's entry count plus the count of the reservation on it equals its frames free at the start, less those handed out, plus those given back
  pub conserved : (t : ℕ) → t < tree_count z frames
      → (entry_at e.trees t).free + reserved_on z e.locals t + handed_out z t xs ≡ free_in z (free_at_start all_free frames) t + given_back z t xs
  -- no frame handed out was already held, and none given back was not
  pub once : NoneTwice (held_at_start all_free frames) xs
  -- no call finds the state Broken
  pub unbroken : NoneBroken xs

-- the sequence theorem's statement: a start that answers Done, then any chain of calls with no further accepted start
abbrev pub Sequence : Type 0
Sequence = (h : Header) (pairs : List ℕ) (all_free : Bool) (s0 s e : Words) (r : Result ⊤ Refusal) (xs : List Step)
    → StartPromise h pairs all_free s0 r s → outcome_of r ≡ 0 → NoRestart xs → Chain h pairs xs s e
    → Demand3 11 h.frames all_free xs e

-- ---- three more

-- no call answers Stuck
abbrev pub NoneStuck : List Step → Type 0
NoneStuck [] = Unit {0}
NoneStuck (x ∷ xs) = (number x ≡ 9 → ⊥) × NoneStuck xs

-- no call of such a chain is Stuck
abbrev pub NeverStuck : Type 0
NeverStuck = (h : Header) (pairs : List ℕ) (all_free : Bool) (s0 s e : Words) (r : Result ⊤ Refusal) (xs : List Step)
    → StartPromise h pairs all_free s0 r s → outcome_of r ≡ 0 → NoRestart xs → Chain h pairs xs s e
    → NoneStuck xs

-- of a chain from any words that pass the state test, tree words being words of 32 bits, no call is Broken or Stuck, and the words after it pass the test
abbrev pub FromStanding : Type 0
FromStanding = (h : Header) (pairs : List ℕ) (s e : Words) (xs : List Step)
    → standing (config h pairs) s.trees s.locals s.bits ≡ true → ((t : ℕ) → get_or s.trees t 0 < 2 ^ 32)
    → NoRestart xs → Chain h pairs xs s e
    → (NoneBroken xs × NoneStuck xs) × (standing (config h pairs) e.trees e.locals e.bits ≡ true)

-- a list that is not the state's is as it was
abbrev pub AsFound : Lent → Type 0
AsFound own = Unit {0}
AsFound (other before after) = after ≡ before

-- what a call is lent beside the state's words is as it was: statistics their tally rows, a start its other lists; no other call is lent more
abbrev pub LentLeft : Step → Type 0
LentLeft (reports rows r filled) = filled ≡ rows
LentLeft (gets name q r) = Unit {0}
LentLeft (puts f q r) = Unit {0}
LentLeft (drains r) = Unit {0}
LentLeft (starts h pairs all_free t l b r) = AsFound t × (AsFound l × AsFound b)

-- from any words: Done and Memory leave the buffers as the rules say, Stuck as the step before left them (the promises say how); all others unchanged, and so is what else is lent
abbrev pub OthersUnchanged : Type 0
OthersUnchanged = (h : Header) (pairs : List ℕ) (x : Step) (s e : Words)
    → Promised h pairs x s e → (number x ≡ 0 → ⊥) → (number x ≡ 7 → ⊥) → (number x ≡ 9 → ⊥)
    → (e ≡ s) × LentLeft x
