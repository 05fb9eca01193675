-- Laws of the steps of exported calls: the state test, the refusals, the lower's put, the classes of a drain. Assumes nothing.
use Rattle.std.specs.Prelude.{◌≡◌, refl, Bool, true, false, List, ℕ, zero, suc, ◌/◌, ◌^◌, ◌≤◌}
use Rattle.rules.specs.Base.{Out, out}
use Rattle.rules.specs.Words.{Config, tree_frames}
use Rattle.rules.specs.Lower.{held_in, mark, has_tree, lower_put}
use Rattle.rules_calls.specs.State.{State, with_bits}
use Rattle.rules_calls.specs.Standing.{standing}
use Rattle.rules_calls.specs.Calls.{Told, telling, unless, if_standing, on_given, on_drained}
use Rattle.law_rules.specs.Lower.{HeldBlock, put-ind}
use Rattle.law_calls.specs.Steps.{ifte-ind}

-- refused with a number, or on
pub unless-ind : (Q : Told → Type 0) (n : ℕ) (s : State) (next : State → Told) → ((e : ℕ) → n ≡ suc e → Q (telling (suc e) 0 0 s)) → (n ≡ 0 → Q (next s)) → Q (unless n s next)
unfolding unless
unless-ind Q zero s next f g = g refl
unless-ind Q (suc n) s next f g = f n refl

-- Broken, or on
pub standing-ind : (Q : Told → Type 0) (c : Config) (s : State) (next : State → Told)
    → (standing c s.trees s.locals s.bits ≡ true → Q (next s)) → (standing c s.trees s.locals s.bits ≡ false → Q (telling 1 0 0 s)) → Q (if_standing c s next)
unfolding if_standing
standing-ind Q c s next f g = ifte-ind Q (standing c s.trees s.locals s.bits) _ _ f g

-- the lower's put: the block was wholly held and is now free, or NotHeld
pub given-ind : (Q : Told → Type 0) (z o f : ℕ) (s : State) (next : State → State) → 6 ≤ z → z ≤ 18 → o ≤ z
    → (HeldBlock z s.bits o f → Q (telling 0 0 0 (next (with_bits s (mark false s.bits o (f / 2 ^ o))))))
    → ((has_tree z s.bits (f / tree_frames z) ≡ true → held_in s.bits o (f / 2 ^ o) ≡ 2 ^ o → ⊥) → Q (telling 8 0 0 s))
    → Q (on_given (lower_put z s.bits o f) s next)
unfolding on_given with_bits
given-ind Q z o f s next least most small yes' no' =
    put-ind z s.bits o least most small (λ (x : Out Bool (List ℕ)). Q (on_given x s next)) f yes' no'

-- the next class, unless one was stuck
pub drained-ind : (R Q : Out Bool State → Type 0) (w : Out Bool State) (next : State → Out Bool State) → R w
    → ((s : State) → R (out true s) → Q (next s)) → ((s : State) → R (out false s) → Q (out false s)) → Q (on_drained w next)
unfolding on_drained
drained-ind R Q (out true s) next h f g = f s h
drained-ind R Q (out false s) next h f g = g s h
