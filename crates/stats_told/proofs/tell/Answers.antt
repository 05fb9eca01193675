-- `stats_told::tell` meets its contract: each return is the report. Assumes nothing.
use mathlib.Core.Path.{sym, ◌∙◌}
use Rattle.rules.specs.Base.{ifte}
use Rattle.law_calls.specs.Tested.{standing-accepted, frames_small}
use Rattle.stats_told.specs.Stats.{stats_of}
use borrow.Author.Tests.{eq-eqb, ne_eqb}
use Rattle.stats_told.proofs.tell.Goals as goal

pub totals-totals-requires : goal.totals-totals-requires
totals-totals-requires c = frames_small _ _ (standing-accepted _ _ _ _ (sym c.stands.ensures ∙ c.if-not-stands.false))

pub all_rows-rows-requires : goal.all_rows-rows-requires
all_rows-rows-requires c = frames_small _ _ (standing-accepted _ _ _ _ (sym c.stands.ensures ∙ c.if-not-stands.false))

pub returns-then-not-stands : goal.returns-then-not-stands
unfolding stats_of ifte
returns-then-not-stands c = rw (← c.stands.ensures, c.if-not-stands.true)

pub returns-then-n-ne8 : goal.returns-then-n-ne8
unfolding stats_of ifte
returns-then-n-ne8 c = rw (← c.stands.ensures, c.if-not-stands.false, ne_eqb _ _ c.if-n-ne8.true)

pub returns : goal.returns
unfolding stats_of ifte
returns c =
    rw (
      ← c.stands.ensures,
      c.if-not-stands.false,
      eq-eqb _ _ c.if-n-ne8.false,
      ← c.totals-totals.ensures.0 _,
      ← c.totals-totals.ensures.1 _,
      ← c.all_rows-rows.ensures c.args.table.now,
    )
