-- `llfree_c::llfree_get` meets its contract. Assumes nothing.
use mathlib.Core.Path.{◌∙◌}
use Rattle.c_forms.specs.Args.{name-some}
use Rattle.llfree_c.proofs.llfree_get.Goals as goal

pub returns : goal.returns
returns c =
    rw (← (c.then_some-name.ensures ∙ name-some c.args.named c.args.frame), ← c.ask-q.ensures)
    (c.answered.ensures _ _ _ ∙ c.get.ensures)
