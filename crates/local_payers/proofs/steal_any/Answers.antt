-- `local_payers::steal_any` meets its contract. Assumes nothing.
use Rattle.rules.specs.Locals.{may_pay, steal_any}
use Rattle.local_payers.proofs.steal_any.Goals as goal

pub returns : goal.returns
unfolding steal_any
returns c = c.payer_in.ensures may_pay (λ kind r met. met.1)
