-- `run_answers::outcome` meets its contract. Assumes nothing.
use Rattle.text_bytes.specs.Text.{and_then, and_byte}
use Rattle.run_answers.specs.OtherText.{outcome_text}
use Rattle.run_answers.proofs.outcome.Goals as goal

pub returns : goal.returns
unfolding outcome_text
returns c =
    rw (← c.number.ensures) (and_byte _ _ _ _ _ (and_then _ _ _ _ _ c.append-to.ensures
    c.name-to.ensures)
    c.put_byte.ensures)
