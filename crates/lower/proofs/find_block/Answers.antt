-- `lower::find_block` meets its contract. Assumes nothing.
use Rattle.std.proofs.Common.{arith, sym, ◌∙◌}
use Rattle.law_rules.specs.Lower.{has_block, frame-block}
use Rattle.lower.proofs.find_block.Goals as goal

pub find-requires : goal.find-requires
find-requires c = (c.requires, has_block 11 _ _ (omega arith) (omega arith) (sym c.has_tree.ensures ∙ c.if-has_tree.true))

pub is_free-requires : goal.is_free-requires
is_free-requires c = frame-block 11 _ _ (omega arith) (omega arith) c.requires _ (sym c.if-has_tree-2.ensures)
