-- The first power that is not below 2 × near. Assumes nothing.
use native.Mathlib.Omega.{arith}
use native.Mathlib.Nat.{div-mul-le_self}
use mathlib.Core.Path.{◌≡◌}
use Prim.Native.Nat.{◌*◌, ◌^◌, ◌<◌, ◌≤◌}
use Rattle.rules_calls.specs.Search.{near}
use Rattle.get_walk_trees.specs.Rounded.{passed_none, passed-more, shifted, round-at, round-none}
use Rattle.get_walk_trees.proofs.rounded_start.Goals as goal

pub loop-e-init : goal.loop-e-init
loop-e-init c = passed_none _

pub returns-then-least-size : goal.returns-then-least-size
returns-then-least-size c =
    let a = c.args in
    let e = c.loop-e.e in
    let h : 2 * near a.n ≤ 2 ^ e = omega (arith, c.if-least-size.true, c.size.ensures.0, c.near-least.ensures.0) in (
      rw (shifted a.start e c.requires.1) (round-at a.n a.start e c.loop-e-test.true c.loop-e.invariant h),
      rw (shifted a.start e c.requires.1) (div-mul-le_self a.start (2 ^ e)),
    )

pub loop-e-preserved : goal.loop-e-preserved
loop-e-preserved c =
    let h : 2 ^ c.loop-e.e < 2 * near c.args.n = omega (arith, c.if-least-size.false, c.size.ensures.0, c.near-least.ensures.0) in
    passed-more c.args.n c.loop-e.e c.loop-e.invariant h

pub returns : goal.returns
returns c =
    let e : c.loop-e.e ≡ 8 = omega arith in
    (round-none _ _ (rw e at c.loop-e.invariant), omega arith)
