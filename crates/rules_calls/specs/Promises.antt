-- The promises of the exported calls: what each answers and what every lent word then is, for all arguments, tables and words.
-- These very definitions stand in the `ensures` of the code, and in the theorems on sequences of calls. Assumes nothing.
use Rattle.std.specs.Prelude.{◌≡◌, Bool, List, ℕ, Option, Result, ⊤}
use Rattle.rules.specs.Words.{config}
use Rattle.rules.specs.declared.Header.{Header}
use Rattle.rules.specs.declared.Request.{Request}
use Rattle.rules_calls.specs.declared.Reply.{Reply}
use Rattle.rules_calls.specs.declared.Tally.{Tally}
use Rattle.rules_calls.specs.declared.Totals.{Totals}
use Rattle.rules_calls.specs.Calls.{told_get, told, get, put, drain, start}
use Rattle.rules_calls.specs.Statistics.{told_totals, statistics}
use Rattle.rules_calls.specs.declared.Refusal.{Refusal}

-- the lent words: tree words, local words, bitmap words
pub record Words : Type 0 where
  pub trees : List ℕ
  pub locals : List ℕ
  pub bits : List ℕ

-- the three of them together
abbrev pub words : List ℕ → List ℕ → List ℕ → Words
words t l b = record { trees = t; locals = l; bits = b }

-- header h, table `pairs`, the words before; the answer r, the words after
abbrev pub StartPromise : Header → List ℕ → Bool → Words → Result ⊤ Refusal → Words → Type 0
StartPromise h pairs all_free s r e = told r e.trees e.locals e.bits ≡ start (config h pairs) all_free s.trees s.locals s.bits

-- of the frame that is named, if one is, and the request q
abbrev pub GetPromise : Header → List ℕ → Option ℕ → Request → Words → Reply → Words → Type 0
GetPromise h pairs name q s r e = told_get r e.trees e.locals e.bits ≡ get (config h pairs) q name s.trees s.locals s.bits

-- of the block at frame f
abbrev pub PutPromise : Header → List ℕ → ℕ → Request → Words → Result ⊤ Refusal → Words → Type 0
PutPromise h pairs f q s r e = told r e.trees e.locals e.bits ≡ put (config h pairs) q f s.trees s.locals s.bits

-- of all reservations
abbrev pub DrainPromise : Header → List ℕ → Words → Result ⊤ Refusal → Words → Type 0
DrainPromise h pairs s r e = told r e.trees e.locals e.bits ≡ drain (config h pairs) s.trees s.locals s.bits

-- statistics are lent the words to read, and tally rows to fill
abbrev pub StatisticsPromise : Header → List ℕ → Words → List Tally → Result Totals Refusal → List Tally → Type 0
StatisticsPromise h pairs s rows r filled = told_totals r filled ≡ statistics (config h pairs) s.trees s.locals s.bits rows
