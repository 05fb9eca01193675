-- The rows decide: their test is the table's. Assumes nothing.
use native.Mathlib.Omega.{arith}
use Rattle.std.proofs.lemmas.Bool.Decides.{nat_tests}
use Rattle.rules.specs.Policy.{accepted, frames_accepted, places_accepted, default_accepted}
use Rattle.law_rules.specs.Rows.{table-rows}
use Rattle.test_accept.proofs.accepts.Goals as goal

pub returns-then-configured_in : goal.returns-then-configured_in
unfolding accepted frames_accepted places_accepted default_accepted
returns-then-configured_in c = grind (arith, nat_tests, table-rows)
