-- The loop stops at a test that fails. Assumes nothing.
use Rattle.std.proofs.Common.{rules}
use Rattle.law_rules.specs.All.{all_stop}
use Rattle.law_rules.specs.Rows.{covers}
use Rattle.test_accept_pairs.proofs.covers.Goals as goal

pub returns-then-not-pair_covered : goal.returns-then-not-pair_covered
unfolding covers
returns-then-not-pair_covered c = λ h. let e = c.pair_covered.ensures h in search (rules, all_stop)
