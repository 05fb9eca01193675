-- What the goals of `get_search_best::search_best` follow from. Assumes nothing.
use mathlib.Core.Path.{sym, ◌∙◌}
use native.Mathlib.Omega.{arith}
use borrow.Author.Rules.{rules}
use Rattle.rules_calls.specs.Walking.{on_sight, stopped, search_best}
use Rattle.get_best.specs.List.{list-empty}
use Rattle.get_ends.specs.Ends.{sight-ends}
use Rattle.get_walk.specs.Walked.{walk_end, walk_ends, walk-goes}
use Rattle.get_search_best.proofs.search_best.Goals as goal

pub loop-s-init : goal.loop-s-init
loop-s-init c =
    let v = c.walk_on-s.ensures in
    record {
      low = v.0.low;
      high = v.0.high;
      seen_most = v.0.most;
      asked-most = search rules;
      walked = rw (← v.0.same _ _ _ _ _, list-empty);
      next = v.1 _;
    }

pub returns-then-ends : goal.returns-then-ends
unfolding search_best stopped
returns-then-ends c =
    let l = c.loop-s.invariant in
    let t = c.loop-s-test.true in
    let v = c.access-r.ensures in
    let e = sym c.ends.ensures ∙ c.if-ends.true in (
      rw (
        ← l.walked,
        walk_ends _ _ _ _ _ _ _ _ _ _ _ _ _ _ _ _ _ _ t c.walk_tree-t.ensures.0 (l.next t) v.0 e,
        sight-ends _ _ _ _ e,
      ),
      omega (arith, v.1, l.low, l.high, l.seen_most, l.asked-most),
    )

pub loop-s-preserved : goal.loop-s-preserved
loop-s-preserved c =
    let l = c.loop-s.invariant in
    let t = c.loop-s-test.true in
    let v = c.access-r.ensures in
    let u = c.walk_on-s-in-loop-s.ensures in
    let e = sym c.ends.ensures ∙ c.if-ends.false in
    record {
      low = omega (arith, l.low, u.0.low);
      high = omega (arith, l.low, l.high, u.0.high, t);
      seen_most = omega (arith, l.low, l.seen_most, v.1, u.0.low, u.0.most);
      asked-most = omega (arith, l.low, l.asked-most, v.1, u.0.low);
      walked =
          sym (u.0.same _ _ _ _ _)
          ∙ (sym (walk-goes _ _ _ _ _ _ _ _ _ _ _ _ _ _ _ _ _ _ t c.walk_tree-t.ensures.0 (l.next t) v.0 e) ∙ l.walked);
      next = u.1 _;
    }

pub returns : goal.returns
unfolding search_best on_sight
returns c =
    let l = c.loop-s.invariant in
    let v = c.try_list.ensures in
    (rw (← l.walked, walk_end _ _ _ _ _ _ _ _ _ _ _ c.loop-s-test.false, ← v.0), omega (arith, v.1, l.low, l.high, l.seen_most, l.asked-most))
