-- `c_numbers::answered` meets its contract. Assumes nothing.
use Rattle.rules_calls.specs.Calls.{tell_get}
use Rattle.c_numbers.proofs.answered.Goals as goal

pub returns-in-Ok : goal.returns-in-Ok
unfolding tell_get
returns-in-Ok c = λ t l b. rw c.in-Ok.is

pub returns-in-Err : goal.returns-in-Err
unfolding tell_get
returns-in-Err c = λ t l b. rw (
  c.in-Err.is,
  ← c.refusal_number.ensures,
)
