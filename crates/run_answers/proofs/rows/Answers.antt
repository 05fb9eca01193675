-- `run_answers::rows` meets its contract. Assumes nothing.
use Rattle.std.proofs.Common.{refl, ap, ◌∙◌}
use Rattle.text_bytes.specs.Text.{text, write, and_then}
use Rattle.run_answers.specs.OtherText.{rows_text, rows-next}
use Rattle.run_answers.proofs.rows.Goals as goal

pub loop-class-init : goal.loop-class-init
unfolding write rows_text
loop-class-init c = refl

pub loop-class-preserved : goal.loop-class-preserved
loop-class-preserved c =
    let l = c.loop-class in
    and_then _ _ _ _ _ l.invariant c.row-to.ensures ∙ ap (write (text c.args.out.now c.args.at)) (rows-next l.class c.args.rows.now _ c.loop-class-test.true)
