-- The test of one entry, at the places of this header. Assumes nothing.
use mathlib.Core.Path.{refl}
use native.Mathlib.Omega.{arith}
use Rattle.std.proofs.Common.{rules}
use Rattle.law_rules.specs.All.{all_more, all_stop}
use Rattle.test_entries.proofs.entries_stand.Goals as goal

pub returns-then-not-entry_stands : goal.returns-then-not-entry_stands
returns-then-not-entry_stands c = λ pairs. let e = c.entry_stands.ensures c.args.h pairs refl in search (rules, all_stop)

pub loop-t-preserved : goal.loop-t-preserved
loop-t-preserved c = λ pairs. let e = c.entry_stands.ensures c.args.h pairs refl in grind (arith, all_more)
