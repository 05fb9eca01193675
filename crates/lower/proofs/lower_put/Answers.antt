-- `lower::lower_put` meets its contract. Assumes nothing.
use Rattle.std.proofs.Common.{arith, sym, ◌∙◌}
use Rattle.law_rules.specs.Lower.{frame-block}
use Rattle.lower.proofs.lower_put.Goals as goal

pub is_held-requires : goal.is_held-requires
is_held-requires c = frame-block 11 _ _ (omega arith) (omega arith) c.requires _ (sym c.has_tree.ensures ∙ c.if-not-has_tree.false)

pub release-requires-clause-block : goal.release-requires-clause-block
release-requires-clause-block c = frame-block 11 _ _ (omega arith) (omega arith) c.requires _ (sym c.has_tree.ensures ∙ c.if-not-has_tree.false)
