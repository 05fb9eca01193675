-- `lower_words::past_held` meets its contract. Assumes nothing.
use Rattle.std.proofs.Common.{arith, ◌/◌, ◌∙◌, ne_eqb}
use Rattle.law_rules.specs.Past.{past_end, past-no, past-yes}
use Rattle.lower_words.proofs.past_held.Goals as goal

pub returns-then-words-at : goal.returns-then-words-at
returns-then-words-at c = past_end _ _ c.if-words-at.true

pub returns-then-words-at-2 : goal.returns-then-words-at-2
returns-then-words-at-2 c = past-yes _ _ c.if-words-at.false (omega (arith, c.type_inv.words (c.args.frame / 64))) _ c.if-words-at-2.true c.full_words.ensures

pub returns-else-words-at-2 : goal.returns-else-words-at-2
returns-else-words-at-2 c = ne_eqb _ _ c.if-words-at-2.false ∙ past-no _ _ c.if-words-at.false (omega (arith, c.type_inv.words (c.args.frame / 64))) c.if-words-at-2.false
