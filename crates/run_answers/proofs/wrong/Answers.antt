-- `run_answers::wrong` meets its contract. Assumes nothing.
use Rattle.text_bytes.specs.Text.{say, and_byte}
use Rattle.run_answers.specs.OtherText.{wrong_text}
use Rattle.run_answers.proofs.wrong.Goals as goal

pub returns : goal.returns
unfolding wrong_text say
returns c =
    and_byte _ _ _ _ _ c.put_number-to.ensures
    c.put_byte.ensures
