-- One local more: absent, or apart from those before it and marked. Assumes nothing.
use mathlib.Core.Path.{sym, ◌∙◌}
use Rattle.law_rules.specs.All.{all_none, all-fails}
use Rattle.test_apart.specs.Apart.{marks-none, absent-turn, present-turn, marked-fails}
use Rattle.test_apart.proofs.apart.Goals as goal
use Rattle.test_apart.proofs.apart.Goals.{then-l+else-not-is_free, else-l}

pub loop-word-init : goal.loop-word-init
loop-word-init c = record { apart = all_none _; marked = marks-none 11 _ }

pub returns-then-not-is_free : goal.returns-then-not-is_free
returns-then-not-is_free c =
    sym (all-fails _ _ _ c.loop-word-test.true
    (marked-fails 11 c.args.locals.now _ c.loop-word.marks c.local_of-l.result c.local_of-l.ensures c.if-l.true
    (c.requires _ c.loop-word-test.true (rw (← c.local_of-l.ensures) c.if-l.true)) (sym c.is_free.ensures ∙ c.if-not-is_free.true) c.loop-word.invariant.marked))

pub loop-word-preserved : goal.loop-word-preserved
loop-word-preserved c =
    let l = c.local_of-l in
    let i = c.loop-word.invariant in
    elim c.if-l.branch [
      | then-l+else-not-is_free w ↦
          let r = present-turn 11 c.args.locals.now c.loop-word.word-index c.loop-word.marks c.if-l.marks l.result l.ensures w.if-l.true
          (c.requires _ c.loop-word-test.true (rw (← l.ensures) w.if-l.true)) (sym w.is_free.ensures ∙ w.if-not-is_free.false) (w.marks-is ∙ w.hold.ensures) i.marked i.apart in
          record { apart = r.0; marked = r.1 }
      | else-l w ↦
          let r = absent-turn 11 c.args.locals.now c.loop-word.word-index c.loop-word.marks c.if-l.marks l.result l.ensures w.if-l.false w.marks-is i.marked i.apart in
          record { apart = r.0; marked = r.1 }
    ]
