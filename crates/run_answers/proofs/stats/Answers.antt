-- `run_answers::stats` meets its contract. Assumes nothing.
use Rattle.text_bytes.specs.Text.{and_then}
use Rattle.run_answers.specs.OtherText.{stats_text}
use Rattle.run_answers.proofs.stats.Goals as goal

pub returns-in-Ok : goal.returns-in-Ok
unfolding stats_text
returns-in-Ok c = rw c.in-Ok.is (and_then _ _ _ _ _ c.totals-to.ensures c.rows.ensures)

pub returns-in-Err : goal.returns-in-Err
unfolding stats_text
returns-in-Err c = rw (c.in-Err.is, ← c.refused-number.ensures.number, ← c.refused-number.ensures.zeros) c.totals.ensures
