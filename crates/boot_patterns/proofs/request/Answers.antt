-- `boot_patterns::request` meets its contract. Assumes nothing.
use native.Mathlib.Omega.{arith}
use Rattle.boot_board.specs.Board.{fits}
use Rattle.boot_patterns.proofs.request.Goals as goal

pub returns : goal.returns
returns c = λ f hf. fits f _ _ _ hf (omega arith) c.class.ensures c.local.ensures
