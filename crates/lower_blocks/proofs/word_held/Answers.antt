-- `lower_blocks::word_held` meets its contract. Assumes nothing.
use native.Mathlib.Omega.{arith}
use lib.Pow.{pow_pos}
use Rattle.law_rules.specs.Power.{one_shl}
use Rattle.law_rules.specs.Tests.{shift-lt}
use Rattle.law_rules.specs.WordSeek.{word, word-start, word_held}
use Rattle.lower_blocks.proofs.word_held.Goals as goal

pub part-requires : goal.part-requires
part-requires c = let s = word-start _ _ _ _ c.size-n.ensures.0 c.requires.1 in let p = pow_pos c.args.order in (omega (arith, c.size-n.ensures.0), shift-lt (word c.args.w) _ c.args.block _ c.size-n.ensures.0 c.requires.0)

pub overflow_shl-result : goal.overflow_shl-result
overflow_shl-result c = shift-lt (word c.args.w) _ c.args.block _ c.size-n.ensures.0 c.requires.0

pub overflow_sub-result : goal.overflow_sub-result
overflow_sub-result c = rw (one_shl _ (shift-lt (word c.args.w) _ c.args.block _ c.size-n.ensures.0 c.requires.0)) (pow_pos _)

pub returns : goal.returns
returns c = word_held _ _ _ _ c.size-n.ensures.0 c.requires.1 _ c.part.ensures c.requires.0
