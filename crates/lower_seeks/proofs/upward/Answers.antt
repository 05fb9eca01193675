-- `lower_seeks::upward` meets its contract. Assumes nothing.
use native.Mathlib.Omega.{arith}
use Rattle.law_rules.specs.Open.{opened, open_none, open-found}
use borrow.Author.Rules.{rules}
use Rattle.lower_seeks.proofs.upward.Goals as goal

pub returns-then-open-end : goal.returns-then-open-end
returns-then-open-end c = open_none _ _ _ _ _ c.if-want-lt6.true (opened _ _ _ _ c.open_word-open.ensures) 11 _ (omega arith) c.if-open-end.true

pub seek_row-requires : goal.seek_row-requires
seek_row-requires c = let p = opened _ _ _ _ c.open_word-open.ensures in let b = c.requires.1 in (search rules, record { order = omega arith; inside = omega (arith, p.high, b.inside, c.if-open-end.false); small = b.small })

pub returns-in-Some : goal.returns-in-Some
returns-in-Some c = let p = opened _ _ _ _ c.open_word-open.ensures in open-found _ _ _ _ _ c.if-want-lt6.true p 11 _ (omega arith) _ _ (omega arith) (omega (arith, p.high, c.if-open-end.false)) c.seek_row.ensures c.in-Some.is
