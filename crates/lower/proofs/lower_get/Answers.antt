-- `lower::lower_get` meets its contract. Assumes nothing.
use Rattle.std.proofs.Common.{arith, sym, ◌∙◌}
use Rattle.law_rules.specs.Lower.{find-is}
use Rattle.law_rules.specs.Tests.{start_small}
use Rattle.lower.proofs.lower_get.Goals as goal

pub overflow_mul-f : goal.overflow_mul-f
overflow_mul-f c = let b = find-is 11 _ _ (omega arith) (omega arith) c.requires _ _ _ (sym c.find_block.ensures ∙ c.in_ok-j.was) in let m = start_small _ _ _ _ c.size.ensures.0 b.block in omega (arith, b.block.small)

pub hold-requires : goal.hold-requires
hold-requires c = let b = find-is 11 _ _ (omega arith) (omega arith) c.requires _ _ _ (sym c.find_block.ensures ∙ c.in_ok-j.was) in record { block = b.block; block_value = b.free }
