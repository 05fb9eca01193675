-- The routes of a get that names a frame, by their answers: laws of `get_at`. Assumes nothing.
use Rattle.std.specs.Prelude.{◌≡◌, true, false, ℕ, ◌/◌, Some}
use Rattle.rules.specs.Base.{out}
use Rattle.rules.specs.Words.{Config, tree_frames}
use Rattle.rules.specs.declared.Request.{Request}
use Rattle.rules_calls.specs.declared.Got.{Got}
use Rattle.rules_calls.specs.State.{State, Way}
use Rattle.rules_calls.specs.FromLocals.{own_local}
use Rattle.rules_calls.specs.Walking.{steal_global}
use Rattle.rules_calls.specs.Get.{last_routes, get_at}
use Rattle.get_ends.specs.Ends.{ends, else-ends, else-goes}

-- the own local ends it
module _ (c : Config) (q : Request) (f : ℕ) (s : State) {g : Got} {s1 : State} (own : out g s1 ≡ own_local c q (Some f) q.local s) where
  pub at_own : ends g ≡ true → out g s1 ≡ get_at c q f s
  unfolding get_at
  at_own e = rw (← own, else-ends _ _ _ e)

  -- past it, the frame's tree
  module _ {t : ℕ} {g2 : Got} {s2 : State} (past : ends g ≡ false) (stolen : out g2 s2 ≡ steal_global c q (Some f) t s1) (tree : t ≡ f / tree_frames c.tree_order) where
    pub at-tree : ends g2 ≡ true → out g2 s2 ≡ get_at c q f s
    unfolding get_at
    at-tree e = rw (← own, else-goes _ _ _ past, ← tree, ← stolen, else-ends _ _ _ e)

    pub at_last : {w : Way} → ends g2 ≡ false → w ≡ last_routes c q (Some f) s2 → w ≡ get_at c q f s
    unfolding get_at
    at_last e h = rw (← own, else-goes _ _ _ past, ← tree, ← stolen, else-goes _ _ _ e) h
