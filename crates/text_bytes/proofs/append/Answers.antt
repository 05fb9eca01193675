use Rattle.std.proofs.Common.{refl, ap, ◌∙◌, get_or}
use Rattle.text_bytes.specs.Text.{Text, text, byte, write, write-next}
use Rattle.text_bytes.proofs.append.Goals as goal

pub loop-b-init : goal.loop-b-init
unfolding write
loop-b-init c = refl

pub loop-b-preserved : goal.loop-b-preserved
loop-b-preserved c =
    let l = c.loop-b in
    let a = c.args in
    c.put_byte-to.ensures
    ∙ ap (λ (t : Text). byte t (get_or a.src.now l.b-index 0)) l.invariant
    ∙ write-next (text a.out.now a.at) a.src.now l.b-index c.loop-b-test.true
