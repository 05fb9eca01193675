use Rattle.std.proofs.Common.{refl, ap, ◌∙◌}
use Rattle.text_bytes.specs.Text.{Text, text, byte, write, blanks, blanks-next}
use Rattle.text_bytes.proofs.spaces.Goals as goal

pub loop-init : goal.loop-init
unfolding write blanks
loop-init c = refl

pub loop-preserved : goal.loop-preserved
loop-preserved c =
    let l = c.loop in
    c.put_byte-to.ensures
    ∙ ap (λ (t : Text). byte t 32) l.invariant
    ∙ blanks-next (text c.args.out.now c.args.at) l.counter
