-- `get_walk_trees::within` meets its contract: a remainder is at most one subtraction where x is below 2n. Assumes nothing.
use mathlib.Core.Path.{refl, sym, ◌∙◌}
use native.Mathlib.Nat.{mod-lt, mod-eq_of_lt, mod-eq-sub-mod}
use borrow.Author.Rules.{rules}
use Rattle.get_walk_trees.proofs.within.Goals as goal

pub returns-then-x-n : goal.returns-then-x-n
returns-then-x-n c =
    (sym (mod-eq_of_lt c.if-x-n.true), search rules)

pub returns-then-x-n-2 : goal.returns-then-x-n-2
returns-then-x-n-2 c =
    (sym (mod-eq-sub-mod c.if-x-n.false ∙ mod-eq_of_lt c.if-x-n-2.true), search rules)

pub returns : goal.returns
returns c =
    (refl, mod-lt _ c.requires)
