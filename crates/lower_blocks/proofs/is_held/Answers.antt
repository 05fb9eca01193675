-- `lower_blocks::is_held` meets its contract. Assumes nothing.
use Rattle.law_rules.specs.Tests.{shift-lt, held-part-test, held-large-test}
use Rattle.law_rules.specs.Power.{one_shl}
use lib.Pow.{pow_pos}
use borrow.Author.Rules.{rules}
use Rattle.lower_blocks.proofs.is_held.Goals as goal

pub part-requires : goal.part-requires
part-requires c = search (rules, shift-lt)

pub overflow_shl-result : goal.overflow_shl-result
overflow_shl-result c = search (rules, shift-lt)

pub overflow_sub-result : goal.overflow_sub-result
overflow_sub-result c = rw (one_shl _ (shift-lt c.args.words.now c.args.order c.args.block c.size-n.result c.size-n.ensures.0 c.if-order-lt6.true)) (pow_pos _)

pub returns-then-order-lt6 : goal.returns-then-order-lt6
returns-then-order-lt6 c = search (rules, held-part-test)

pub returns-else-order-lt6 : goal.returns-else-order-lt6
returns-else-order-lt6 c = search (rules, held-large-test)
