-- `c_forms::ask` meets its contract. Assumes nothing.
use Rattle.std.proofs.Common.{◌∙◌}
use Rattle.c_forms.specs.Args.{given-some}
use Rattle.c_forms.proofs.ask.Goals as goal

pub returns : goal.returns
returns c =
    rw (← (c.then_some.ensures ∙ given-some c.args.given c.args.local))
