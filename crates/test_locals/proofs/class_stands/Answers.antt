-- The locals of a class are those from its first slot on. Assumes nothing.
use native.Mathlib.Omega.{arith}
use Rattle.std.proofs.Common.{rules}
use Rattle.rules.specs.Words.{slot}
use Rattle.rules_calls.specs.Standing.{class_stands}
use Rattle.law_rules.specs.All.{all_stop, all_done}
use Rattle.test_locals.proofs.class_stands.Goals as goal

pub returns-then-not-local_stands : goal.returns-then-not-local_stands
unfolding class_stands slot
returns-then-not-local_stands c = rw (← c.requires.len_value.0, ← c.requires.exact.1.1.1) (search (rules, all_stop))

pub returns : goal.returns
unfolding class_stands slot
returns c = rw (← c.requires.len_value.0, ← c.requires.exact.1.1.1) (grind (arith, all_done))
