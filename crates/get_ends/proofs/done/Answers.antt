-- `get_ends::done` meets its contract. Assumes nothing.
use mathlib.Core.Path.{refl}
use Rattle.rules_calls.specs.State.{done}
use Rattle.get_ends.proofs.done.Goals as goal

pub returns : goal.returns
unfolding done
returns c = (λ t l b. refl, refl)
