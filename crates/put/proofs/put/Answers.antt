-- `put::put` meets its contract. Assumes nothing.
use mathlib.Core.Path.{sym, ◌∙◌}
use Rattle.test_arguments.specs.Checked.{checked-fits}
use Rattle.law_calls.specs.Tested.{standing-accepted}
use Rattle.test_arguments.specs.Refusals.{done-checked, state-broken, argument-refused, tests-passed}
use Rattle.rules_calls.specs.Calls.{number_of, outcome_of, put}
use Rattle.put.proofs.put.Goals as goal

pub returns-then-not-stands : goal.returns-then-not-stands
unfolding put outcome_of number_of
returns-then-not-stands c = state-broken _ _ _ _ _ c.stands.ensures c.if-not-stands.true

pub returns-in-Err : goal.returns-in-Err
unfolding put outcome_of
returns-in-Err c =
    argument-refused _ _ _ _ _
    c.stands.ensures
    c.if-not-stands.false
    (c.check.ensures _)
    c.in-Err.is

pub invariant_of-put_body : goal.invariant_of-put_body
invariant_of-put_body c =
    record {
      fits = checked-fits _ _ _ _ (standing-accepted _ _ _ _ (sym c.stands.ensures ∙ c.if-not-stands.false))
          (done-checked _ _ (c.check.ensures _) c.in_default.is);
    }

pub returns : goal.returns
unfolding put
returns c =
    tests-passed _ _ _ _ _
    c.stands.ensures
    c.if-not-stands.false
    (c.check.ensures _)
    c.in_default.is
    c.put_body.ensures
