-- The promises of the archive's functions, with numbers where the promises of crate `rules_calls` have enums. These very definitions stand in
-- the `ensures` of the code. Assumes nothing.
use Rattle.std.specs.Prelude.{◌≡◌, Bool, List, ℕ, Option}
use Rattle.rules.specs.Words.{config}
use Rattle.rules.specs.declared.Header.{Header}
use Rattle.rules.specs.declared.Request.{Request}
use Rattle.rules_calls.specs.State.{st}
use Rattle.rules_calls.specs.Calls.{telling, fresh, start, get, put, drain}
use Rattle.rules_calls.specs.Promises.{Words}
use Rattle.rules_calls.specs.declared.Tally.{Tally}
use Rattle.rules_calls.specs.Statistics.{reporting, statistics}
use Rattle.c_numbers.specs.declared.Answer.{Answer}
use Rattle.c_forms.specs.declared.Summary.{Summary}

-- header h, table `pairs`, the words before; the number r, the words after
abbrev pub StartNumber : Header → List ℕ → Bool → Words → ℕ → Words → Type 0
StartNumber h pairs free s r e = telling r 0 0 (fresh e.trees e.locals e.bits) ≡ start (config h pairs) free s.trees s.locals s.bits

-- of the frame that is named, if one is, and the request q: number, frame, class and counts
abbrev pub GetAnswer : Header → List ℕ → Option ℕ → Request → Words → Answer → Words → Type 0
GetAnswer h pairs name q s r e =
    telling r.number r.frame r.class (st e.trees e.locals e.bits r.looks r.tries) ≡ get (config h pairs) q name s.trees s.locals s.bits

-- of the block at frame f
abbrev pub PutNumber : Header → List ℕ → ℕ → Request → Words → ℕ → Words → Type 0
PutNumber h pairs f q s r e = telling r 0 0 (fresh e.trees e.locals e.bits) ≡ put (config h pairs) q f s.trees s.locals s.bits

-- of all reservations
abbrev pub DrainNumber : Header → List ℕ → Words → ℕ → Words → Type 0
DrainNumber h pairs s r e = telling r 0 0 (fresh e.trees e.locals e.bits) ≡ drain (config h pairs) s.trees s.locals s.bits

-- statistics are lent the words to read, and tally rows to fill: number, total free and free trees, and the rows after
abbrev pub StatisticsAnswer : Header → List ℕ → Words → List Tally → Summary → List Tally → Type 0
StatisticsAnswer h pairs s rows r filled = reporting r.number r.free r.trees filled ≡ statistics (config h pairs) s.trees s.locals s.bits rows
