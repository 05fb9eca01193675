-- `local_payers::demote_any` meets its contract. Assumes nothing.
use Rattle.rules.specs.Locals.{may_move, demote_any}
use Rattle.local_payers.proofs.demote_any.Goals as goal

pub returns : goal.returns
unfolding demote_any
returns c = c.payer_in.ensures may_move (λ kind r met. met.1)
