-- The near walk as a route of its own, which is empty from order 9 on, and the reserving search by its two routes. Assumes nothing.
use Rattle.std.specs.Prelude.{◌≡◌, refl, Bool, true, false, ℕ, ◌≤◌, ◌<◌, ltb}
use Rattle.std.proofs.Common.{lt-ltb, le-ltb}
use Rattle.rules.specs.Base.{ifte, out}
use Rattle.rules.specs.Words.{Config, huge_order, trees_of}
use Rattle.rules.specs.declared.Request.{Request}
use Rattle.rules_calls.specs.declared.Got.{Got}
use Rattle.rules_calls.specs.declared.Walk.TheVariants as Walk
use Rattle.rules_calls.specs.State.{State, Way, missed, or_else}
use Rattle.rules_calls.specs.Walking.{search_best}
use Rattle.rules_calls.specs.Search.{near, rounded_start, search_far, search_from, search_and_reserve}
use Rattle.get_ends.specs.Ends.{ends, else-ends, else-goes}

-- below order 9 the near walk
unfoldable pub near_first : Config → Request → ℕ → ℕ → State → Way
near_first c q j start s =
    ifte (ltb q.order (huge_order c.tree_order))
    (λ _. search_best c q Walk.Near j 3 (trees_of c) start 1 (near (trees_of c)) s)
    (λ _. missed s)

else-if : (b : Bool) (x : Way) (s : State) (next : State → Way)
    → ifte b (λ _. or_else x next) (λ _. next s) ≡ or_else (ifte b (λ _. x) (λ _. missed s)) next
unfolding ifte or_else missed
else-if true x s next = refl
else-if false x s next = refl

-- the near walk, then the far walk
pub near-far : (c : Config) (q : Request) (j start : ℕ) (s : State) → search_from c q j start s ≡ or_else (near_first c q j start s) (search_far c q j start)
unfolding search_from near_first
near-far c q j start s = else-if (ltb q.order (huge_order c.tree_order)) _ s (search_far c q j start)

-- by the answers of the steps
module _ (c : Config) (q : Request) (j start : ℕ) (s : State) where
  pub near-empty : {w : Way} → huge_order c.tree_order ≤ q.order → w ≡ missed s → w ≡ near_first c q j start s
  unfolding near_first ifte
  near-empty huge h = rw (le-ltb _ _ huge) h

  pub near-walks : {n last : ℕ} {w : Way} → q.order < huge_order c.tree_order → n ≡ trees_of c → last ≡ near n
      → w ≡ search_best c q Walk.Near j 3 n start 1 last s → w ≡ near_first c q j start s
  unfolding near_first ifte
  near-walks small all far h = rw (lt-ltb _ _ small, ← all, ← far) h

  -- both walks from the rounded start
  module _ {n from : ℕ} {g : Got} {s' : State} (all : n ≡ trees_of c) (round : from ≡ rounded_start n start) (first : out g s' ≡ near_first c q j from s) where
    pub near-ends : ends g ≡ true → out g s' ≡ search_and_reserve c q j start s
    unfolding search_and_reserve
    near-ends e = rw (← all, ← round, near-far _ _ _ _ _, ← first, else-ends _ _ _ e)

    pub near-goes : {w : Way} → ends g ≡ false → w ≡ search_best c q Walk.Far j 8 (trees_of c) from 0 (trees_of c) s' → w ≡ search_and_reserve c q j start s
    unfolding search_and_reserve search_far
    near-goes e h = rw (← all, ← round, near-far _ _ _ _ _, ← first, else-goes _ _ _ e) h
