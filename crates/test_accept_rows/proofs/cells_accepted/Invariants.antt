-- `test_accept_rows::cells_accepted` meets its contract. The invariant: the test passes at every number passed. Assumes nothing.
use mathlib.Core.Path.{◌≡◌}
use mathlib.Core.Bool.{true}
use Rattle.rules.specs.Base.{all_below}
use Rattle.rules.specs.Words.{config}
use Rattle.law_rules.specs.Rows.{cell_accepted}
use Rattle.test_accept_rows.proofs.cells_accepted.Given as goal

abbrev pub invariant-loop-e : goal.invariant-loop-e
invariant-loop-e l = all_below l.e (cell_accepted (config l.h l.table) l.o) ≡ true
