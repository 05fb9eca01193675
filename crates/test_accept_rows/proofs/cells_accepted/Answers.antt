-- The loop stops at a test that fails. Assumes nothing.
use Rattle.std.proofs.Common.{rules}
use Rattle.law_rules.specs.All.{all_stop}
use Rattle.test_accept_rows.proofs.cells_accepted.Goals as goal

pub returns-then-not-cell_accepted : goal.returns-then-not-cell_accepted
returns-then-not-cell_accepted c = search (rules, all_stop)
