-- `lower_blocks::is_free` meets its contract. Assumes nothing.
use Rattle.law_rules.specs.Tests.{shift-lt, free_part, free-large}
use borrow.Author.Rules.{rules}
use Rattle.lower_blocks.proofs.is_free.Goals as goal

pub part-requires : goal.part-requires
part-requires c = search (rules, shift-lt)

pub returns-then-order-lt6 : goal.returns-then-order-lt6
returns-then-order-lt6 c = search (rules, free_part)

pub returns-else-order-lt6 : goal.returns-else-order-lt6
returns-else-order-lt6 c = search (rules, free-large)
