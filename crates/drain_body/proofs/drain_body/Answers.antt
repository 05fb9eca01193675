-- What the goals of `drain_body::drain_body` follow from. Assumes nothing.
use mathlib.Core.Path.{refl}
use borrow.Author.Rules.{rules}
use Rattle.rules_calls.specs.Calls.{number_of, outcome_of, on_drained, close_drain}
use Rattle.drain_body.specs.Loops.{classes-end, classes-more}
use Rattle.drain_body.proofs.drain_body.Goals as goal

pub loop-k-init : goal.loop-k-init
loop-k-init c = (refl, (refl, λ b. refl))

pub returns-then-not-drain_class : goal.returns-then-not-drain_class
unfolding on_drained close_drain number_of outcome_of
returns-then-not-drain_class c =
    λ b.
    rw (
      ← c.loop-k.invariant.1.1 b,
      classes-more _ _ _ _ c.loop-k-test.true,
      ← c.drain_class.ensures b,
      c.if-not-drain_class.true,
    )

pub loop-k-preserved : goal.loop-k-preserved
unfolding on_drained
loop-k-preserved c = (
  search rules,
  (
    search rules,
    λ b.
        rw (
          ← c.loop-k.invariant.1.1 b,
          classes-more _ _ _ _ c.loop-k-test.true,
          ← c.drain_class.ensures b,
          c.if-not-drain_class.false,
        ),
  ),
)

pub returns : goal.returns
unfolding close_drain number_of outcome_of
returns c =
    λ b.
    rw (
      ← c.loop-k.invariant.1.1 b,
      classes-end _ _ _ _ c.loop-k-test.false,
    )
