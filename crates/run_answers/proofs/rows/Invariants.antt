use Rattle.std.proofs.Common.{◌≡◌, take}
use Rattle.text_bytes.specs.Text.{text, write}
use Rattle.run_answers.specs.OtherText.{rows_text}
use Rattle.run_answers.proofs.rows.Given as goal

-- the rows so far are written
abbrev pub invariant-loop-class : goal.invariant-loop-class
invariant-loop-class l = text l.out l.to ≡ write (text l.initial.out l.at) (rows_text 0 (take l.class l.rows))
