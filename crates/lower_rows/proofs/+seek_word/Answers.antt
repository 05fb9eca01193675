-- What the goals of `lower_rows::+seek_word` follow from. Assumes nothing.
use borrow.Author.Rules.{rules}
use native.Mathlib.Omega.{arith}
use Rattle.law_rules.specs.Block.{block-few, half-left, half-right}
use Rattle.law_rules.specs.WordSeek.{word-yes, word-no, word-right, word-left, word_next}
use Rattle.lower_rows.proofs.+seek_word.Goals as goal

pub returns-then-word_free : goal.returns-then-word_free
returns-then-word_free t c = search (rules, word-yes)

pub returns-then-order-want : goal.returns-then-order-want
returns-then-order-want t c = search (rules, word-no)

pub overflow_mul-left : goal.overflow_mul-left
overflow_mul-left t c = let s = block-few _ _ _ c.requires.1.1.1 in omega arith

pub overflow_mul-right : goal.overflow_mul-right
overflow_mul-right t c = let s = block-few _ _ _ c.requires.1.1.1 in omega arith

pub overflow_add-right : goal.overflow_add-right
overflow_add-right t c = let s = block-few _ _ _ c.requires.1.1.1 in omega arith

pub word_held-requires : goal.word_held-requires
word_held-requires t c = search (rules, half-left)

pub seek_word-requires : goal.seek_word-requires
seek_word-requires t c = (search rules, (search rules, (search rules, (search rules, half-right _ _ _ _ c.requires.0 c.if-order-want.false c.requires.1.1.1))))

pub returns-then-word_held : goal.returns-then-word_held
returns-then-word_held t c = search (rules, word-right)

pub seek_word-i-requires : goal.seek_word-i-requires
seek_word-i-requires t c = (search rules, (search rules, (search rules, (search rules, half-left _ _ _ _ c.requires.0 c.if-order-want.false c.requires.1.1.1))))

pub returns-then-i-lt64 : goal.returns-then-i-lt64
returns-then-i-lt64 t c = search (rules, word-left)

pub seek_word-requires-2 : goal.seek_word-requires-2
seek_word-requires-2 t c = (search rules, (search rules, (search rules, (search rules, half-right _ _ _ _ c.requires.0 c.if-order-want.false c.requires.1.1.1))))

pub returns : goal.returns
returns t c = search (rules, word_next)
