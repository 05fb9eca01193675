-- `drain::drain` meets its contract. Assumes nothing.
use mathlib.Core.Path.{sym, ◌∙◌}
use Rattle.law_calls.specs.Tested.{standing-accepted, default-small}
use Rattle.rules.specs.Base.{ifte}
use Rattle.rules_calls.specs.Calls.{outcome_of, number_of, drain, if_standing}
use Rattle.drain.proofs.drain.Goals as goal

pub drain_body-requires : goal.drain_body-requires
drain_body-requires c =
    default-small _ _ (standing-accepted _ _ _ _ (sym c.stands.ensures ∙ c.if-not-stands.false))

pub returns : goal.returns
unfolding drain if_standing ifte
returns c =
    rw (
      ← c.stands.ensures,
      c.if-not-stands.false,
    )
    (c.drain_body.ensures _)

pub returns-then-not-stands : goal.returns-then-not-stands
unfolding drain if_standing ifte outcome_of number_of
returns-then-not-stands c =
    rw (
      ← c.stands.ensures,
      c.if-not-stands.true,
    )
