-- `boot::main` is safe and ends. Assumes nothing.
use Rattle.boot_board.specs.Board.{ready-board, ready-small}
use Rattle.boot.proofs.main.Goals as goal

pub boot-requires : goal.boot-requires
boot-requires c = c.new-s.ensures ready-board

pub boot-requires-2 : goal.boot-requires-2
boot-requires-2 c = c.new-s-2.ensures ready-small
