-- `lower_seeks::find` meets its contract. Assumes nothing.
use mathlib.Core.Path.{◌≡◌}
use Prim.Native.Nat.{◌*◌, ◌/◌}
use native.Mathlib.Omega.{arith}
use Rattle.law_rules.specs.Search.{hint-free, hint-block, seek-hint, seek-round}
use Rattle.lower_seeks.proofs.find.Goals as goal

pub is_free-requires : goal.is_free-requires
is_free-requires c = hint-block 11 _ _ _ (omega arith) c.requires.0 c.requires.1

pub returns-then-is_free : goal.returns-then-is_free
returns-then-is_free c = hint-free 11 _ _ _ (omega arith) c.requires.0 _ c.is_free.ensures c.if-is_free.true

pub returns-in-Some : goal.returns-in-Some
returns-in-Some c = seek-hint 11 _ _ _ (omega arith) c.requires.0 _ c.upward.ensures _ c.in-Some.is

pub returns-in-None : goal.returns-in-None
returns-in-None c = let row = c.args.row in let e : row / 32 * 32 / 32 ≡ row / 32 = omega arith in seek-round 11 _ _ _ (omega arith) c.requires.0 _ c.upward.ensures _ c.in-None.is (rw e at c.upward-in-None.ensures)
