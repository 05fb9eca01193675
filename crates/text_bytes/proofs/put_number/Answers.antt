-- `text_bytes::put_number` meets its contract. Assumes nothing.
use mathlib.Core.Path.{ap, ◌∙◌}
use Rattle.std.specs.Prelude.{List, ℕ, ◌++◌}
use Rattle.text_bytes.specs.Text.{text, write, and_then}
use Rattle.text_bytes.specs.Numbers.{padded-alone}
use Rattle.text_bytes.proofs.put_number.Goals as goal

pub returns : goal.returns
returns c =
    let a = c.args in
    and_then _ _ _ _ _ c.append-to.ensures c.put_padded.ensures
    ∙ ap (λ (l : List ℕ). write (text a.out.now a.at) (a.before.now ++ l)) (padded-alone a.n)
