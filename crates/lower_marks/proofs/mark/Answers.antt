-- `lower_marks::mark` meets its contract. Assumes nothing.
use Rattle.std.proofs.Common.{◌≡◌, ℕ, Bool, true, false, not, ◌^◌, ◌<◌, List}
use Rattle.rules.specs.Base.{pick}
use Rattle.rules.specs.Lower.{held_in, full}
use Rattle.law_rules.specs.MarkTests.{FieldIs, field-free, field-held, mark-part, mark-large}
use Rattle.lower_marks.proofs.mark.Goals as goal
use Rattle.lower_marks.proofs.mark.Goals.{then-held, else-held}

-- the bits of a block that is free or held
field : (ws : List ℕ) (o j n : ℕ) (v : Bool) (e : n ≡ 2 ^ o) → o < 6 → held_in ws o j ≡ pick v 0 (2 ^ o) → FieldIs ws o j n e (full (not v) n)
field ws o j n true e h z = field-free ws o j n e h z
field ws o j n false e h z = field-held ws o j n e h z

pub put-requires : goal.put-requires
put-requires c = field _ _ _ _ c.args.held c.size-n.ensures.0 c.if-order-lt6.true c.requires.block_value

pub returns-then-order-lt6 : goal.returns-then-order-lt6
returns-then-order-lt6 c = mark-part _ _ _ _ c.size-n.ensures.0 c.args.held _ c.if-order-lt6.true c.put.ensures

pub returns-after-held : goal.returns-after-held
returns-after-held c =
    mark-large _ _ _ _ c.size-n.ensures.0 c.args.held _ c.if-order-lt6.false
    (elim c.if-held.branch [
      | then-held w ↦ rw w.if-held.true (rw w.set_words-is at c.set_words.ensures)
      | else-held w ↦ rw w.if-held.false (rw w.set_words-is at c.set_words.ensures)
    ])
