-- `test_locals::class_stands`: every local passed stands. Assumes nothing.
use mathlib.Core.Path.{◌≡◌}
use mathlib.Core.Bool.{true}
use Prim.Native.Nat.{◌+◌}
use Rattle.rules.specs.Base.{all_below}
use Rattle.rules.specs.Words.{config}
use Rattle.rules_calls.specs.Standing.{local_stands}
use Rattle.test_locals.proofs.class_stands.Given as goal

abbrev pub invariant-loop-index : goal.invariant-loop-index
invariant-loop-index l = all_below l.index (λ n. local_stands (config l.h l.table) l.trees l.locals l.bits l.class (l.first + n)) ≡ true
