-- `run_answers::granted` meets its contract. Assumes nothing.
use Rattle.text_bytes.specs.Text.{say, and_then}
use Rattle.run_answers.specs.GetText.{granted_text}
use Rattle.run_answers.proofs.granted.Goals as goal

pub returns-in-Ok : goal.returns-in-Ok
unfolding granted_text say
returns-in-Ok c =
    rw c.in-Ok.is (and_then _ _ _ _ _ c.put_number-to.ensures
    c.put_number.ensures)

pub returns-in-Err : goal.returns-in-Err
unfolding granted_text say
returns-in-Err c =
    rw (c.in-Err.is, ← c.refusal_number.ensures) (and_then _ _ _ _ _ c.name-to.ensures
    c.append.ensures)
