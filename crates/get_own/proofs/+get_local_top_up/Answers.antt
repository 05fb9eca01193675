-- What the goals of `get_own::+get_local_top_up` follow from. Assumes nothing.
use Rattle.get_own_topped.specs.Topped.{on_topped, top-topped}
use Rattle.get_own.specs.TopUp.{take-parts, top_up-more, top_up-none}
use Rattle.rules_calls.specs.FromLocals.{get_local}
use Rattle.rules_calls.specs.State.{on_held, with_locals}
use native.Mathlib.Omega.{arith}
use Rattle.get_own.proofs.+get_local_top_up.Goals.{top_up-else-syncs-gt0-via-then-syncs-gt0+else-topped, top_up-else-syncs-gt0-via-else-syncs-gt0}
use Rattle.get_own.proofs.+get_local_top_up.Goals as goal

pub get_local-returns-in-Row : goal.get_local-returns-in-Row
unfolding get_local on_held with_locals
get_local-returns-in-Row t c = (
  rw (
    take-parts _ _ _ _ _ _,
    ← c.size.ensures.0,
    ← c.take.ensures,
    c.in-Row.is,
  ) c.at_row.ensures.0,
  c.at_row.ensures.1,
)

pub get_local-returns-in-Few : goal.get_local-returns-in-Few
unfolding get_local on_held with_locals
get_local-returns-in-Few t c = (
  rw (
    take-parts _ _ _ _ _ _,
    ← c.size.ensures.0,
    ← c.take.ensures,
    c.in-Few.is,
  ) c.top_up.ensures.0,
  c.top_up.ensures.1,
)

pub get_local-returns-in-Absent : goal.get_local-returns-in-Absent
unfolding get_local on_held with_locals
get_local-returns-in-Absent t c = (
  rw (
    take-parts _ _ _ _ _ _,
    ← c.size.ensures.0,
    ← c.take.ensures,
    c.in-Absent.is,
  ) (c.missed.ensures.0 _ _ _),
  rw c.missed.ensures.1 (omega arith),
)

pub top_up-returns-then-topped : goal.top_up-returns-then-topped
unfolding on_topped
top_up-returns-then-topped t c = (
  rw (
    top_up-more c.args.syncs _ _ _ _ _ _ _ (λ e. omega (arith, e, c.if-syncs-gt0.true)),
    top-topped _ _ _ _ _ _ _,
    ← c.size-n.ensures.0,
    ← c.topped.ensures,
    c.if-topped.true,
  ) c.get_local.ensures.0,
  c.get_local.ensures.1,
)

pub top_up-returns : goal.top_up-returns
unfolding on_topped
top_up-returns t c = (
  elim c.else-syncs-gt0.branch [
    | top_up-else-syncs-gt0-via-then-syncs-gt0+else-topped w ↦ rw (
      w.trees-is,
      w.locals-is,
      top_up-more c.args.syncs _ _ _ _ _ _ _ (λ e. omega (arith, e, w.if-syncs-gt0.true)),
      top-topped _ _ _ _ _ _ _,
      ← c.size-n.ensures.0,
      ← w.topped.ensures,
      w.if-topped.false,
    ) (c.missed_at.ensures.0 _ _ _)
    | top_up-else-syncs-gt0-via-else-syncs-gt0 w ↦ rw (
      w.trees-is,
      w.locals-is,
      top_up-none c.args.syncs _ _ _ _ _ _ _ (omega (arith, w.if-syncs-gt0.false)),
    ) (c.missed_at.ensures.0 _ _ _)
  ],
  rw c.missed_at.ensures.1 (omega arith),
)
