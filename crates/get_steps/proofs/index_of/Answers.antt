-- `get_steps::index_of` meets its contract. Assumes nothing.
use Rattle.std.proofs.Common.{◌≡◌, ℕ, Option, Some, None, refl, ◌∙◌}
use Rattle.std.specs.Option.{unwrap_or}
use Rattle.rules_calls.specs.State.{index_of}
use Rattle.get_steps.proofs.index_of.Goals as goal

or-zero : (local : Option ℕ) → unwrap_or local 0 ≡ index_of local
unfolding index_of
or-zero (Some i) = refl
or-zero None = refl

pub returns : goal.returns
returns c = c.unwrap_or.ensures ∙ or-zero c.args.local
