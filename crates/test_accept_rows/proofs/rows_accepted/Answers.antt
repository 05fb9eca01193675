-- The loop stops at a test that fails. Assumes nothing.
use Rattle.std.proofs.Common.{rules}
use Rattle.law_rules.specs.All.{all_stop}
use Rattle.test_accept_rows.proofs.rows_accepted.Goals as goal

pub returns-then-not-row_accepted : goal.returns-then-not-row_accepted
returns-then-not-row_accepted c = search (rules, all_stop)
