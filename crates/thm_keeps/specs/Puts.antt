-- The frames of a put go to the given local if it holds their tree, else to the entry: the rules stand. Assumes nothing.
use Rattle.std.specs.Prelude.{◌≡◌, List, Option, Some, None}
use Rattle.std.proofs.Math.Path.{refl, ap}
use Prim.Native.Nat.{ℕ, ◌/◌, ◌<◌}
use Rattle.std.proofs.Common.{arith}
use Rattle.rules.specs.Words.{Config, tree_frames, trees_of, slot, local_at}
use Rattle.rules.specs.declared.Request.{Request}
use Rattle.rules_calls.specs.State.{State, size, with_trees, with_locals, put_entry}
use Rattle.rules_calls.specs.Standing.{tree_on}
use Rattle.rules_calls.specs.Calls.{put_to}
use Rattle.law_rules.specs.Sizes.{Size}
use Rattle.thm_hand.specs.Hand.{here, nothing, Hand, Kept}
use Rattle.law_calls.specs.Steps.{put-ind}
use Rattle.thm_hand.specs.Here.{here-same}
use Rattle.thm_hand.specs.Entries.{hand-put}
use Rattle.thm_hand.specs.Locals.{hand-fill}

-- the rules stand, and no bit changes
abbrev pub Settled : Config → List ℕ → State → Type 0
Settled c b s = Kept c s.trees s.locals s.bits × (s.bits ≡ b)

module _ (c : Config) (sz : Size c.tree_order) (q : Request) (f : ℕ) (lt : f / tree_frames c.tree_order < trees_of c) where
  -- to the entry
  entry-settled : (s : State) → Hand c s.trees s.locals s.bits (here (f / tree_frames c.tree_order) (size q)) nothing → Settled c s.bits (put_entry c (f / tree_frames c.tree_order) (size q) s)
  unfolding put_entry with_trees
  entry-settled s H = (hand-put c sz s.trees s.locals s.bits (here (f / tree_frames c.tree_order) (size q)) nothing H (f / tree_frames c.tree_order) lt (size q) nothing (λ i. omega arith), refl)

  pub put_to-settled : (g : Option ℕ) (s : State) → Hand c s.trees s.locals s.bits (here (f / tree_frames c.tree_order) (size q)) nothing → Settled c s.bits (put_to c q f g s)
  unfolding put_to with_locals
  put_to-settled (Some i) s H =
      let t : ℕ = f / tree_frames c.tree_order in
      let j : ℕ = slot c.places q.class i in
      put-ind (Settled c s.bits) s c.tree_order j t (size q) _ _
      (λ p on. (
        hand-fill c sz s.trees s.locals s.bits (here t (size q)) nothing H j p (size q) nothing (omega (arith, here-same t (size q) (tree_on c.tree_order (local_at s.locals j)) on))
            (λ x. (let d : here (tree_on c.tree_order (local_at s.locals j)) (size q) x ≡ here t (size q) x = ap (λ (y : ℕ). here y (size q) x) on in omega arith)),
        refl,
      ))
      (λ _. entry-settled s H)
  put_to-settled None s H = entry-settled s H
