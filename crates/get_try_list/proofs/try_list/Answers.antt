-- What the goals of `get_try_list::try_list` follow from. Assumes nothing.
use Rattle.std.specs.Prelude.{◌≡◌, List, [], ◌∷◌, ℕ, zero, suc, take}
use borrow.Author.Rules.{rules}
use mathlib.Core.Path.{refl, sym, ◌∙◌}
use native.Mathlib.Omega.{arith}
use Rattle.rules_calls.specs.Walking.{try_list}
use Rattle.get_best.specs.List.{list_of, from_first, from-none, from_more, from_end}
use Rattle.get_ends.specs.Ends.{else-ends, else-goes}
use Rattle.get_try_list.proofs.try_list.Goals as goal

-- the list that words hold is that of as many
taken : (m : ℕ) (ws : List ℕ) → list_of m (take m ws) ≡ list_of m ws
unfolding list_of
taken zero ws = refl
taken (suc m) [] = refl
taken (suc m) (zero ∷ ws) = refl
taken (suc m) (suc w ∷ ws) = rw (taken m ws)

pub loop-x-init : goal.loop-x-init
loop-x-init c =
    record {
      seen_most = omega arith;
      asked-most = omega arith;
      long = search rules;
      same-list = rw (from_first, taken);
    }

pub returns-then-x-eq0 : goal.returns-then-x-eq0
unfolding try_list
returns-then-x-eq0 c =
    let l = c.loop-x in
    let t = rw l.invariant.long at c.loop-x-test.true in
    (rw (← l.invariant.same-list, from-none _ _ _ t (omega (arith, l.invariant.long)) c.if-x-eq0.true) (c.missed.ensures.0 _ _ _), rw c.missed.ensures.1 (omega (arith, l.invariant.seen_most, l.invariant.asked-most)))

pub returns-then-ends : goal.returns-then-ends
unfolding try_list
returns-then-ends c =
    let l = c.loop-x in
    let t = rw l.invariant.long at c.loop-x-test.true in
    let v = c.access-r in (
      rw (
        ← l.invariant.same-list,
        from_more _ _ _ t (omega (arith, l.invariant.long)) c.if-x-eq0.false,
        ← v.ensures.0,
        else-ends _ _ _ (sym c.ends.ensures ∙ c.if-ends.true),
      ),
      omega (arith, v.ensures.1, t, l.invariant.seen_most, l.invariant.asked-most),
    )

pub loop-x-preserved : goal.loop-x-preserved
unfolding try_list
loop-x-preserved c =
    let l = c.loop-x in
    let t = rw l.invariant.long at c.loop-x-test.true in
    let v = c.access-r in
    record {
      seen_most = omega (arith, l.invariant.seen_most, v.ensures.1);
      asked-most = omega (arith, l.invariant.asked-most, v.ensures.1);
      long = l.invariant.long;
      same-list = rw (
        from_more _ _ _ t (omega (arith, l.invariant.long)) c.if-x-eq0.false,
        ← v.ensures.0,
        else-goes _ _ _ (sym c.ends.ensures ∙ c.if-ends.false),
      ) at l.invariant.same-list;
    }

pub returns : goal.returns
unfolding try_list
returns c =
    let l = c.loop-x in
    (rw (← l.invariant.same-list, from_end _ _ _ (rw l.invariant.long at c.loop-x-test.false)) (c.missed-2.ensures.0 _ _ _), search rules)
