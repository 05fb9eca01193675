-- `get_demote::demote_to` meets its contract. Assumes nothing.
use Rattle.test_fits.specs.Fits.{given-small}
use native.Mathlib.Omega.{arith}
use borrow.Author.Rules.{rules}
use Rattle.get_demote.specs.Demoted.{displaced, displaced-stuck, itself, itself-stuck}
use mathlib.Core.Path.{sym, ◌∙◌}
use Rattle.get_demote.proofs.demote_to.Goals.{in-Some, in-None}
use Rattle.get_demote.proofs.demote_to.Goals as goal

pub slot-requires : goal.slot-requires
slot-requires c = (search rules, given-small _ _ c.in-Some.is c.args.a.fits.index)

pub returns-then-not-returned : goal.returns-then-not-returned
returns-then-not-returned c = (
  elim c.match-a.branch [
    | in-Some w ↦ rw (w.trees-is, w.locals-is)
        (displaced-stuck _ _ _ _ _
        w.in-Some.is
        w.slot.ensures
        w.swap-old.ensures.0
        w.unreserve_local-returned.ensures
        (sym w.returned-is ∙ c.if-not-returned.true)
        (c.stuck.ensures.0 _ _ _))
    | in-None w ↦ rw (w.trees-is, w.locals-is)
        (itself-stuck _ _ _ _ _
        w.in-None.is
        w.unreserve-returned.ensures
        (sym w.returned-is ∙ c.if-not-returned.true)
        (c.stuck.ensures.0 _ _ _))
  ],
  rw c.stuck.ensures.1 (omega arith),
)

pub returns : goal.returns
returns c = (
  elim c.match-a.branch [
    | in-Some w ↦
        let h = rw w.trees-is at c.ask_lower.ensures.0 in
        rw w.locals-is
        (displaced _ _ _ _ _
        w.in-Some.is
        w.slot.ensures
        w.swap-old.ensures.0
        w.unreserve_local-returned.ensures
        (sym w.returned-is ∙ c.if-not-returned.false)
        (h _))
    | in-None w ↦
        let h = rw w.trees-is at c.ask_lower.ensures.0 in
        rw w.locals-is
        (itself _ _ _ _ _
        w.in-None.is
        w.unreserve-returned.ensures
        (sym w.returned-is ∙ c.if-not-returned.false)
        (h _))
  ],
  c.ask_lower.ensures.1,
)
