-- `get_ends::missed_at` meets its contract. Assumes nothing.
use mathlib.Core.Path.{refl}
use Rattle.rules_calls.specs.State.{missed_at}
use Rattle.get_ends.proofs.missed_at.Goals as goal

pub returns : goal.returns
unfolding missed_at
returns c = (λ t l b. refl, refl)
