-- `boot::start` meets its contract. Assumes nothing.
use mathlib.Core.Path.{ap, ◌∙◌}
use Rattle.rules_calls.specs.Calls.{Told}
use Rattle.boot_board.specs.Board.{starts}
use Rattle.boot.proofs.start.Goals as goal

pub returns : goal.returns
returns c = ap (λ (x : Told). x.number) c.start.ensures ∙ starts _ _ _ _ c.requires
