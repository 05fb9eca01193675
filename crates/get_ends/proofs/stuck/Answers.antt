-- `get_ends::stuck` meets its contract. Assumes nothing.
use mathlib.Core.Path.{refl}
use Rattle.rules_calls.specs.State.{stuck}
use Rattle.get_ends.proofs.stuck.Goals as goal

pub returns : goal.returns
unfolding stuck
returns c = (λ t l b. refl, refl)
