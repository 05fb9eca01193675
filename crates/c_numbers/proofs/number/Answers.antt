-- `c_numbers::number` meets its contract. Assumes nothing.
use Rattle.rules_calls.specs.Calls.{outcome_of, number_of}
use Rattle.c_numbers.proofs.number.Goals as goal

pub returns-in-Ok : goal.returns-in-Ok
unfolding outcome_of number_of
returns-in-Ok c =
    rw c.in-Ok.is

pub returns-in-Err : goal.returns-in-Err
unfolding outcome_of number_of
returns-in-Err c =
    rw (
      c.in-Err.is,
      ← c.refusal_number.ensures,
    )
