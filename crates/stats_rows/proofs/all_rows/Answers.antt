-- `stats_rows::all_rows` meets its contract. Assumes nothing.
use Rattle.std.proofs.Common.{◌≡◌, ◌∙◌, ℕ, ◌<◌, arith}
use Rattle.rules.specs.Words.{config}
use Rattle.rules_calls.specs.Statistics.{local_free, tally, tallies}
use Rattle.stats_rows.specs.Rows.{row_of, row_is}
use Rattle.stats_rows.proofs.all_rows.Goals as goal

pub entries_by_class-e-requires : goal.entries_by_class-e-requires
entries_by_class-e-requires c = c.tree_count.ensures.1.1

pub returns : goal.returns
unfolding tallies
returns c = λ pairs.
    let e = c.entries_by_class-e.ensures in
    let n = c.tree_count.ensures.0 in
    let g = c.reserved_by_class-held.ensures in
    let m = c.local_count.ensures.0 in
    let x = config c.args.h pairs in
    let row : (k : ℕ) → k < 8 → row_of 11 c.entries_by_class-e.result (local_free x c.args.locals.now k) c.reserved_by_class-held.result k ≡ tally x c.args.trees.now c.args.locals.now k =
    λ k l. row_is x c.args.trees.now c.args.locals.now c.entries_by_class-e.result c.reserved_by_class-held.result k l (rw (← n) e.0) (rw (← n) e.1.0) (rw (← n) e.1.1) (rw (← m) g) in
    rw (
      c.class_row.ensures pairs ∙ row 0 (omega arith),
      c.class_row-2.ensures pairs ∙ row 1 (omega arith),
      c.class_row-3.ensures pairs ∙ row 2 (omega arith),
      c.class_row-4.ensures pairs ∙ row 3 (omega arith),
      c.class_row-5.ensures pairs ∙ row 4 (omega arith),
      c.class_row-6.ensures pairs ∙ row 5 (omega arith),
      c.class_row-7.ensures pairs ∙ row 6 (omega arith),
      c.class_row-8.ensures pairs ∙ row 7 (omega arith),
    )
