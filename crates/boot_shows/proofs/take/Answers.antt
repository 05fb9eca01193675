-- What the goals of `boot_shows::take` follow from. Assumes nothing.
use Rattle.std.proofs.Common.{ℕ, ◌+◌, ◌-◌, ◌^◌, sym, ap, ◌∙◌, arith}
use Rattle.boot_patterns.specs.Patterns.{above-digit, above-none}
use Rattle.boot_shows.specs.Blocks.{held_over, held_one}
use Rattle.boot_shows.proofs.take.Goals as goal

pub loop-order-preserved-then-not-has_block : goal.loop-order-preserved-then-not-has_block
loop-order-preserved-then-not-has_block c =
    let i = c.loop-order.invariant in
    let no = sym c.has_block.ensures ∙ c.if-not-has_block.true in
    record {
      taken = i.taken ∙ above-none c.frames-wanted.result c.loop-order.order c.loop-order-test.true no;
      wanted = i.wanted;
      few = omega (arith, i.few);
      first = held_over _ _ _ c.loop-order-test.true i.few i.first no;
    }

pub loop-order-preserved : goal.loop-order-preserved
loop-order-preserved c =
    let i = c.loop-order.invariant in
    let yes = sym c.has_block.ensures ∙ c.if-not-has_block.false in
    let d = above-digit c.frames-wanted.result c.loop-order.order c.loop-order-test.true yes in
    record {
      taken = c.with_block.ensures ∙ ap (λ (x : ℕ). x + 2 ^ (c.loop-order.order - 1)) i.taken ∙ d;
      wanted = i.wanted;
      few = omega (arith, i.few);
      first = held_one _ _ _ c.loop-order-test.true i.few i.first _ yes;
    }
