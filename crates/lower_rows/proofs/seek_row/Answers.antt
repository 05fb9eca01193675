-- `lower_rows::seek_row` meets its contract. Assumes nothing.
use native.Mathlib.Omega.{arith}
use Rattle.law_rules.specs.WordSeek.{word-mul, word-found, word_none}
use Rattle.lower_rows.proofs.seek_row.Goals as goal

pub overflow_mul-b : goal.overflow_mul-b
overflow_mul-b c = let m = word-mul _ c.args.row _ c.size.ensures.0 in omega (arith, c.requires.1.inside, c.requires.1.small)

pub overflow_add-result : goal.overflow_add-result
overflow_add-result c = let m = word-mul _ c.args.row _ c.size.ensures.0 in omega (arith, c.requires.1.inside, c.requires.1.small)

pub returns-then-i-lt64 : goal.returns-then-i-lt64
returns-then-i-lt64 c = word-found _ _ _ c.requires.0 _ _ c.first_block-i.ensures c.size.ensures.0 c.if-i-lt64.true

pub returns : goal.returns
returns c = word_none _ _ _ c.requires.0 _ c.size.result c.first_block-i.ensures c.if-i-lt64.false
