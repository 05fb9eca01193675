-- `get_ends::missed` meets its contract. Assumes nothing.
use mathlib.Core.Path.{refl}
use Rattle.rules_calls.specs.State.{missed}
use Rattle.get_ends.proofs.missed.Goals as goal

pub returns : goal.returns
unfolding missed
returns c = (λ t l b. refl, refl)
