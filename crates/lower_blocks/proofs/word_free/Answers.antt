-- `lower_blocks::word_free` meets its contract. Assumes nothing.
use native.Mathlib.Omega.{arith}
use lib.Pow.{pow_pos}
use Rattle.law_rules.specs.Tests.{shift-lt}
use Rattle.law_rules.specs.WordSeek.{word, word-start, word-free}
use Rattle.lower_blocks.proofs.word_free.Goals as goal

pub part-requires : goal.part-requires
part-requires c = let s = word-start _ _ _ _ c.size-n.ensures.0 c.requires.1 in let p = pow_pos c.args.order in (omega (arith, c.size-n.ensures.0), shift-lt (word c.args.w) _ c.args.block _ c.size-n.ensures.0 c.requires.0)

pub returns : goal.returns
returns c = word-free _ _ _ _ c.size-n.ensures.0 c.requires.1 _ c.part.ensures c.requires.0
