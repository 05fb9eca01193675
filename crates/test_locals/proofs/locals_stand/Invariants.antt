-- `test_locals::locals_stand`: the locals of every class passed stand, and `first` is the number of them. Assumes nothing.
use mathlib.Core.Path.{◌≡◌}
use mathlib.Core.Bool.{true}
use Prim.Native.Nat.{◌≤◌, ◌*◌}
use Rattle.rules.specs.Base.{all_below, sum}
use Rattle.rules.specs.Words.{config, locals_of}
use Rattle.rules_calls.specs.Standing.{class_stands}
use Rattle.test_locals.proofs.locals_stand.Given as goal

abbrev pub invariant-loop-class : goal.invariant-loop-class
invariant-loop-class l = record {
  stand : all_below l.class (class_stands (config l.fn.h l.table) l.trees l.locals l.bits) ≡ true;
  few : l.first ≤ 255 * l.class;
  before : l.first ≡ sum (locals_of l.fn.h.places) 0 l.class;
}
