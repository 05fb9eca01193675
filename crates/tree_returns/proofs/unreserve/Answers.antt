-- `tree_returns::unreserve` meets its contract. Assumes nothing.
use Rattle.std.proofs.Common.{◌≡◌, List, ℕ, Option, Some, None, refl, ap, ◌∙◌}
use Rattle.std.specs.Option.{is_some}
use Rattle.rules.specs.Base.{out}
use Rattle.rules.specs.declared.Tree.{Tree}
use Rattle.tree_returns.specs.Returned.{returned, took_back}
use Rattle.tree_returns.proofs.unreserve.Goals as goal

some-back : (o : Option Tree) (ts : List ℕ) → out (is_some o) ts ≡ took_back (out o ts)
unfolding took_back
some-back (Some e) ts = refl
some-back None ts = refl

pub returns : goal.returns
unfolding returned
returns c = rw c.is_some.ensures (some-back c.unreserve.result c.unreserve.new.trees ∙ ap took_back c.unreserve.ensures)
