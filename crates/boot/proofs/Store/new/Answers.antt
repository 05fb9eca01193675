-- `boot::Store::new` meets its contract. Assumes nothing.
use Rattle.boot_board.specs.Board.{ready-from}
use Rattle.boot.proofs.Store.new.Goals as goal

pub returns : goal.returns
returns g c = ready-from c.args.frames _ _ _ _ _ (c.table.ensures c.args.frames) c.header.ensures
