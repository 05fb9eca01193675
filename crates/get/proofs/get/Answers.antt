-- `get::get` meets its contract. Assumes nothing.
use mathlib.Core.Path.{sym, ap, ◌∙◌}
use Rattle.test_arguments.specs.Checked.{checked-fits}
use Rattle.law_calls.specs.Tested.{standing-accepted}
use Rattle.test_arguments.specs.Refusals.{done-checked, state-broken, argument-refused, tests-passed}
use Rattle.rules_calls.specs.Calls.{number_of, tell_get, close, get}
use Rattle.get.proofs.get.Goals as goal

pub returns-then-not-stands : goal.returns-then-not-stands
unfolding get tell_get number_of
returns-then-not-stands c =
    rw c.refused.ensures
    (state-broken _ _ _ _ _ c.stands.ensures c.if-not-stands.true)

pub returns-in-Err : goal.returns-in-Err
unfolding get tell_get
returns-in-Err c =
    rw (← c.frame_of.ensures, c.refused-in-Err.ensures)
    (argument-refused _ _ _ _ _
    c.stands.ensures
    c.if-not-stands.false
    (c.check.ensures _)
    c.in-Err.is)

pub invariant_of-routes : goal.invariant_of-routes
invariant_of-routes c =
    record {
      fits = checked-fits _ _ _ _ (standing-accepted _ _ _ _ (sym c.stands.ensures ∙ c.if-not-stands.false))
          (done-checked _ _ (c.check.ensures _) c.in_default.is);
    }

pub returns : goal.returns
unfolding get
returns c =
    rw (← c.frame_of.ensures)
    (tests-passed _ _ _ _ _
    c.stands.ensures
    c.if-not-stands.false
    (c.check.ensures _)
    c.in_default.is
    (c.reply.ensures _ _ _ ∙ ap close c.routes.ensures))
