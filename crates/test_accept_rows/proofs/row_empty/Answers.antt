-- One pair more: no bit of it exactly if it is zero. Assumes nothing.
use native.Mathlib.Omega.{arith}
use Rattle.law_rules.specs.All.{all-next, or-empty}
use Rattle.test_accept_rows.proofs.row_empty.Goals as goal

pub loop-e-preserved : goal.loop-e-preserved
loop-e-preserved c = grind (arith, all-next, or-empty)
