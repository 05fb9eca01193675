-- `test_accept_pairs::covers`: the test passes at every number passed. Assumes nothing.
use mathlib.Core.Path.{◌≡◌}
use mathlib.Core.Bool.{true}
use Rattle.rules.specs.Base.{all_below}
use Rattle.rules.specs.Words.{config}
use Rattle.rules.specs.declared.Header.{Header}
use Rattle.law_rules.specs.Rows.{pair_covered}
use Rattle.test_accept_pairs.proofs.covers.Given as goal

abbrev pub invariant-loop-f : goal.invariant-loop-f
invariant-loop-f l = (h : Header) → all_below l.f (pair_covered (config h l.table) l.o l.e) ≡ true
