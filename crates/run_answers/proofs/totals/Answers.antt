-- `run_answers::totals` meets its contract. Assumes nothing.
use Rattle.text_bytes.specs.Text.{say, and_then, and_byte}
use Rattle.run_answers.specs.OtherText.{totals_text}
use Rattle.run_answers.proofs.totals.Goals as goal

pub returns : goal.returns
unfolding totals_text say
returns c =
    and_byte _ _ _ _ _ (and_then _ _ _ _ _ (and_then _ _ _ _ _ (and_then _ _ _ _ _ c.append-to.ensures
    c.name-to.ensures)
    c.put_number-to.ensures)
    c.put_number-to-2.ensures)
    c.put_byte.ensures
