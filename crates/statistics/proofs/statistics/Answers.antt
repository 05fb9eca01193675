-- `statistics::statistics` meets its contract: a refusal leaves the rows, and where eight are lent all are stored. Assumes nothing.
use Rattle.std.specs.Prelude.{◌≡◌, List, Ok, length}
use Rattle.std.proofs.Common.{rules, subst, sym}
use Rattle.std.proofs.lemmas.Result.{err_from_is_err_and}
use Rattle.rules.specs.Words.{config}
use Rattle.rules_calls.specs.declared.Tally.{Tally}
use Rattle.rules_calls.specs.Statistics.{told_totals, statistics}
use Rattle.stats_rows.specs.Rows.{stores, stores-all}
use Rattle.stats_told.specs.Stats.{kept, full, eight, filled}
use Rattle.statistics.proofs.statistics.Goals as goal

pub returns-in_err-told : goal.returns-in_err-told
returns-in_err-told c =
    let p = err_from_is_err_and c.from_residual.result c.from_residual.ensures.1 in
    rw (p.1, p.2) (kept _ _ _ _ _ c.tell.ensures c.in_err-told.was)

pub bounds-rows-0 : goal.bounds-rows-0
bounds-rows-0 c = let e : length c.args.rows.now ≡ 8 = full _ _ _ _ _ c.tell.ensures c.in_ok-told.was in search rules

pub bounds-rows-1 : goal.bounds-rows-1
bounds-rows-1 c = let e : length c.args.rows.now ≡ 8 = full _ _ _ _ _ c.tell.ensures c.in_ok-told.was in search rules

pub bounds-rows-2 : goal.bounds-rows-2
bounds-rows-2 c = let e : length c.args.rows.now ≡ 8 = full _ _ _ _ _ c.tell.ensures c.in_ok-told.was in search rules

pub bounds-rows-3 : goal.bounds-rows-3
bounds-rows-3 c = let e : length c.args.rows.now ≡ 8 = full _ _ _ _ _ c.tell.ensures c.in_ok-told.was in search rules

pub bounds-rows-4 : goal.bounds-rows-4
bounds-rows-4 c = let e : length c.args.rows.now ≡ 8 = full _ _ _ _ _ c.tell.ensures c.in_ok-told.was in search rules

pub bounds-rows-5 : goal.bounds-rows-5
bounds-rows-5 c = let e : length c.args.rows.now ≡ 8 = full _ _ _ _ _ c.tell.ensures c.in_ok-told.was in search rules

pub bounds-rows-6 : goal.bounds-rows-6
bounds-rows-6 c = let e : length c.args.rows.now ≡ 8 = full _ _ _ _ _ c.tell.ensures c.in_ok-told.was in search rules

pub bounds-rows-7 : goal.bounds-rows-7
bounds-rows-7 c = let e : length c.args.rows.now ≡ 8 = full _ _ _ _ _ c.tell.ensures c.in_ok-told.was in search rules

pub returns : goal.returns
unfolding stores
returns c =
    let told = c.in_ok-told.told in
    subst
    (λ (rows : List Tally). told_totals (Ok told.totals) rows ≡ statistics (config c.args.h c.args.table.now) c.args.trees.now c.args.locals.now c.args.bits.now c.args.rows.now)
    (sym (stores-all c.args.rows.now told.rows (full _ _ _ _ _ c.tell.ensures c.in_ok-told.was) (eight _ _ _ _ c.args.rows.now _ c.tell.ensures c.in_ok-told.was)))
    (filled _ _ _ _ _ c.tell.ensures c.in_ok-told.was)
