-- Take and top up in the terms of the code: the local's answer, and then its parts; no sync left, or one. Assumes nothing.
use Rattle.std.specs.Prelude.{◌≡◌, Option}
use Rattle.std.proofs.Math.Path.{refl}
use Prim.Native.Nat.{ℕ, zero, suc, ◌-◌, ◌/◌}
use native.Mathlib.Omega.{arith}
use Rattle.rules.specs.Words.{Config, tree_rows}
use Rattle.rules.specs.Locals.{local_take}
use Rattle.rules.specs.declared.Request.{Request}
use Rattle.rules_calls.specs.State.{State, Way, size, on_held, missed, missed_at}
use Rattle.rules_calls.specs.FromLocals.{take_by, top_by, top_up, get_local}
use Rattle.get_own_row.specs.Own.{at_row}

pub take-parts : (up : ℕ → ℕ → State → Way) (c : Config) (q : Request) (name : Option ℕ) (j : ℕ) (s : State)
    → take_by up c q name j s ≡ on_held (local_take c.tree_order s.locals j name (size q)) s (at_row c q name j) up missed
unfolding take_by at_row
take-parts up c q name j s = refl

module _ (k : ℕ) (c : Config) (q : Request) (name : Option ℕ) (j row free : ℕ) (s : State) where
  pub top_up-none : k ≡ 0 → top_up k c q name j row free s ≡ missed_at (row / tree_rows c.tree_order) s
  unfolding top_up
  top_up-none e = go k e
    where
      go : (k : ℕ) → k ≡ 0 → top_up k c q name j row free s ≡ missed_at (row / tree_rows c.tree_order) s
      go zero e = refl
      go (suc k) e = absurd (omega arith)

  pub top_up-more : (k ≡ 0 → ⊥) → top_up k c q name j row free s ≡ top_by (get_local (k - 1) c q name j) c q j row free s
  unfolding top_up get_local
  top_up-more ne = go k ne
    where
      go : (k : ℕ) → (k ≡ 0 → ⊥) → top_up k c q name j row free s ≡ top_by (get_local (k - 1) c q name j) c q j row free s
      go zero ne = absurd (ne refl)
      go (suc k) ne = let e : suc k - 1 ≡ k = omega arith in rw e
