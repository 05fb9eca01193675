-- What the goals of `lower_seeks::+seek` follow from. Assumes nothing.
use borrow.Author.Rules.{rules}
use Rattle.law_rules.specs.Block.{half-left, half-right}
use Rattle.law_rules.specs.Seek.{leaf-yes, leaf-no, at-word, right-only, from-left, from-right, right-reached, left-reached}
use Rattle.lower_seeks.proofs.+seek.Goals as goal

pub returns-then-is_free : goal.returns-then-is_free
returns-then-is_free t c = search (rules, leaf-yes)

pub returns-then-order-want : goal.returns-then-order-want
returns-then-order-want t c = search (rules, leaf-no)

pub returns-then-order-eq6 : goal.returns-then-order-eq6
returns-then-order-eq6 t c = search (rules, at-word)

pub seek-requires : goal.seek-requires
seek-requires t c = (search rules, (search rules, (search rules, (right-reached _ _ _ c.requires.0 c.if-order-eq6.false c.requires.1.1.0, half-right _ _ _ _ c.requires.1.0 c.if-order-want.false c.requires.1.1.1))))

pub returns-then-passed : goal.returns-then-passed
returns-then-passed t c = search (rules, right-only)

pub seek-requires-2 : goal.seek-requires-2
seek-requires-2 t c = (search rules, (search rules, (search rules, (left-reached _ _ _ _ _ c.requires.0 c.requires.1.0 c.if-order-want.false c.if-order-eq6.false _ c.passed.ensures c.if-passed.false, half-left _ _ _ _ c.requires.1.0 c.if-order-want.false c.requires.1.1.1))))

pub seek-requires-in-None : goal.seek-requires-in-None
seek-requires-in-None t c = (search rules, (search rules, (search rules, (right-reached _ _ _ c.requires.0 c.if-order-eq6.false c.requires.1.1.0, half-right _ _ _ _ c.requires.1.0 c.if-order-want.false c.requires.1.1.1))))

pub returns-in-Some : goal.returns-in-Some
returns-in-Some t c = search (rules, from-left)

pub returns-in-None : goal.returns-in-None
returns-in-None t c = search (rules, from-right)
