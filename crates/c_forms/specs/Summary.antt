-- What statistics answer, in numbers: the number of the outcome, total free, free trees. Assumes nothing.
use Rattle.std.specs.Prelude.{Result, Ok, Err}
use Rattle.rules_calls.specs.Calls.{number_of}
use Rattle.rules_calls.specs.declared.Refusal.{Refusal}
use Rattle.rules_calls.specs.declared.Totals.{Totals}
use Rattle.c_forms.specs.declared.Summary.{Summary}

abbrev pub summary_of : Result Totals Refusal → Summary
summary_of (Ok t) = record { number = 0; free = t.free; trees = t.trees }
summary_of (Err x) = record { number = number_of x; free = 0; trees = 0 }
