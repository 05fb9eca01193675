-- `stats_lent::report` meets its contract: what is lent of the zeros, and what is not, is cut at as many rows as are asked for. Assumes nothing.
use Rattle.std.specs.Prelude.{List, ◌++◌, ◌≤◌, refl, length, drop, replicate}
use Rattle.std.proofs.Common.{arith, length-take-le}
use Rattle.std.proofs.lemmas.List.{length-append, length-drop, length-replicate}
use Rattle.rules_calls.specs.declared.Tally.{Tally}
use Rattle.std.proofs.lemmas.Result.{err_from_is_err_and}
use Rattle.stats_rows.specs.Rows.{zero_row, stores, stores-take}
use Rattle.stats_lent.specs.Lent.{zeros, lent-refused, lent-done}
use Rattle.stats_lent.proofs.report.Goals as goal

pub returns-in_err-totals : goal.returns-in_err-totals
returns-in_err-totals c =
    let p = err_from_is_err_and c.from_residual.result c.from_residual.ensures.1 in
    rw (p.1, p.2) (lent-refused _ _ (λ l. omega (arith, c.min-m.ensures)) (λ l. omega (arith, c.min-m.ensures)) _ _ _ _ _ _ _ c.statistics.ensures c.in_err-totals.was)

pub returns : goal.returns
unfolding stores
returns c =
    let lent : List Tally = c.statistics.new.rows ++ drop c.min-m.result zeros in
    let few : c.min-m.result ≤ 16 = omega (arith, c.min-m.ensures) in
    let eight : 8 ≤ length lent =
    omega (arith, length-append c.statistics.new.rows (drop c.min-m.result zeros), length-drop c.min-m.result zeros, length-replicate 16 zero_row, c.statistics.auto.rows, length-take-le c.min-m.result zeros (omega (arith, length-replicate 16 zero_row))) in
    lent-done _ _ (λ l. omega (arith, c.min-m.ensures)) (λ l. omega (arith, c.min-m.ensures)) _ _ _ _ _ _ _ c.statistics.ensures c.in_ok-totals.was (stores-take (replicate 8 zero_row) lent refl eight)
