-- `test_accept_rows::row_empty` meets its contract. The invariant: no bit so far exactly if the pairs so far are zero. Assumes nothing.
use mathlib.Core.Path.{◌≡◌}
use lib.Dec.{eqb}
use Rattle.rules.specs.Base.{all_below}
use Rattle.rules.specs.Words.{config}
use Rattle.rules.specs.declared.Header.{Header}
use Rattle.law_rules.specs.Rows.{pair_empty}
use Rattle.test_accept_rows.proofs.row_empty.Given as goal

abbrev pub invariant-loop-e : goal.invariant-loop-e
invariant-loop-e l = (h : Header) → eqb l.any 0 ≡ all_below l.e (pair_empty (config h l.table) l.o)
