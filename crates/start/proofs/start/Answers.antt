-- `start::start` meets its contract. Assumes nothing.
use mathlib.Core.List.{[]}
use mathlib.Core.Path.{sym, ap, ◌∙◌}
use Rattle.rules_calls.specs.State.{State}
use Rattle.rules_calls.specs.Calls.{telling, outcome_of, number_of}
use Rattle.law_calls.specs.Tested.{lengths-say, frames_small}
use Rattle.rules.specs.Base.{ifte}
use Rattle.rules_calls.specs.Calls.{start}
use Rattle.start.proofs.start.Goals as goal

pub lengths_exact-requires : goal.lengths_exact-requires
lengths_exact-requires c = frames_small _ _ (sym c.accepts.ensures ∙ c.if-not-accepts.false)

pub start_body-requires : goal.start_body-requires
start_body-requires c =
    let l = lengths-say _ _ _ _ (sym (c.lengths_exact.ensures []) ∙ c.if-lengths_exact.true) in
    record {
      frames_bound = frames_small _ _ (sym c.accepts.ensures ∙ c.if-not-accepts.false);
      trees_len = l.tree_words;
      locals_len = l.local_words;
      bits_len = l.bit_words;
    }

pub returns-then-lengths_exact : goal.returns-then-lengths_exact
unfolding start ifte outcome_of
returns-then-lengths_exact c =
    rw (
      ← c.accepts.ensures,
      c.if-not-accepts.false,
      ← c.lengths_exact.ensures _,
      c.if-lengths_exact.true,
    )
    (ap (λ (s : State). telling 0 0 0 s) (c.start_body.ensures _))

pub returns : goal.returns
unfolding start ifte outcome_of number_of
returns c =
    rw (
      ← c.accepts.ensures,
      c.if-not-accepts.false,
      ← c.lengths_exact.ensures _,
      c.if-lengths_exact.false,
    )

pub returns-then-not-accepts : goal.returns-then-not-accepts
unfolding start ifte outcome_of number_of
returns-then-not-accepts c =
    rw (
      ← c.accepts.ensures,
      c.if-not-accepts.true,
    )
