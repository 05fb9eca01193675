-- What the goals of `get_best::admit` follow from. Assumes nothing.
use native.Mathlib.Omega.{arith}
use mathlib.Core.Bool.{false}
use mathlib.Core.Path.{◌≡◌, sym, ◌∙◌}
use Prim.Native.Nat.{◌≤◌, ◌<◌, ◌-◌, ◌/◌, ◌^◌}
use native.Mathlib.Nat.{sub-zero}
use lib.ListN.{length, get_or}
use Rattle.std.proofs.lemmas.Bool.Decides.{nat_tests}
use Rattle.law_rules.specs.All.{by}
use Rattle.get_best.specs.Insertion.{inserted-is, inserted-first, inserted-end, turn_in, turn-swap, turn-keep}
use Rattle.get_best.proofs.admit.Goals as goal
use Rattle.get_best.proofs.admit.Goals.{then-inside, else-inside}

pub loop-k-init : goal.loop-k-init
loop-k-init c = record { places = omega arith; rest = rw sub-zero (inserted-first _ _ _ _) }

pub loop-k-preserved : goal.loop-k-preserved
loop-k-preserved c =
    let l = c.loop-k in
    let i = l.invariant in
    let n = c.args.m in
    let t = c.loop-k-test.true in
    let p = c.requires.0 in
    elim c.if-inside.branch [
      | then-inside w ↦
          let r = by l.inside
          (λ e. turn_in l.k n l.moving l.inside l.s t p i.places i.rest e w.s-is w.moving-is (w.if-inside.true ∙ sym e))
          (λ e. (let less : get_or l.s l.k 0 / 2 ^ 32 < l.moving / 2 ^ 32 = grind (arith, nat_tests) in
          turn-swap l.k n l.moving l.inside l.s t p i.places i.rest e less w.s-is w.moving-is w.if-inside.true)) in
          record { places = r.0; rest = r.1 }
      | else-inside w ↦
          let e : l.inside ≡ false = grind (arith, nat_tests) in
          let most : l.moving / 2 ^ 32 ≤ get_or l.s l.k 0 / 2 ^ 32 = grind (arith, nat_tests) in
          let r = turn-keep l.k n l.moving l.inside l.s t p i.places i.rest e most w.s-is w.moving-is (w.if-inside.false ∙ sym e) in
          record { places = r.0; rest = r.1 }
    ]

pub returns : goal.returns
returns c =
    let l = c.loop-k in
    let a = c.args in
    let p = c.requires in
    let e : a.m - l.k ≡ 0 = omega arith in
    let long : a.m ≤ length a.best = omega arith in
    rw (sym (inserted-end l.k l.moving l.s l.inside) ∙ (rw e at l.invariant.rest))
    (inserted-is a.key a.t p.1.0 p.1.1.1 a.m a.best long)
