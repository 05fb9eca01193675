-- `text_bytes::put_padded` meets its contract. Assumes nothing.
use mathlib.Core.Path.{ap, ◌∙◌}
use native.Mathlib.Omega.{arith}
use Rattle.text_bytes.specs.Text.{text, write, and_then}
use Rattle.text_bytes.specs.Numbers.{decimal-is, padded-is}
use Rattle.text_bytes.proofs.put_padded.Goals as goal

pub returns : goal.returns
returns c =
    let a = c.args in
    let d = c.decimal-k in
    let e = d.ensures.digits ∙ decimal-is a.n d.result d.ensures.len (omega arith) in
    and_then _ _ _ _ _ c.spaces-to.ensures c.append.ensures
    ∙ ap (write (text a.out.now a.at)) (padded-is a.width a.n d.result c.saturating_sub.result _ e (omega (arith, c.saturating_sub.ensures)) d.ensures.in_bounds.1)
