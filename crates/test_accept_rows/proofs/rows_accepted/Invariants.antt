-- `test_accept_rows::rows_accepted` meets its contract. The invariant: the test passes at every number passed. Assumes nothing.
use mathlib.Core.Path.{◌≡◌}
use mathlib.Core.Bool.{true}
use Rattle.rules.specs.Base.{all_below}
use Rattle.rules.specs.Words.{config}
use Rattle.law_rules.specs.Rows.{row_accepted}
use Rattle.test_accept_rows.proofs.rows_accepted.Given as goal

abbrev pub invariant-loop-o : goal.invariant-loop-o
invariant-loop-o l = all_below l.o (row_accepted (config l.h l.table)) ≡ true
