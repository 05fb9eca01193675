-- One class more: its locals stand, and are counted. Assumes nothing.
use native.Mathlib.Omega.{arith}
use Rattle.std.proofs.Common.{rules}
use Rattle.law_rules.specs.All.{all_none, all_more, all_stop}
use Rattle.law_rules.specs.Sum.{sum-none, sum_more}
use Rattle.test_locals.proofs.locals_stand.Goals as goal

pub loop-class-init : goal.loop-class-init
loop-class-init c = grind (arith, all_none, sum-none)

pub returns-then-not-class_stands : goal.returns-then-not-class_stands
returns-then-not-class_stands c = search (rules, all_stop)

pub loop-class-preserved : goal.loop-class-preserved
loop-class-preserved c = grind (arith, all_more, sum_more)
