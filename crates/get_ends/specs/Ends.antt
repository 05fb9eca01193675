-- Which ends of a route are the last, as a test: laws of `on_sight` and `or_else`. Assumes nothing.
use Rattle.std.specs.Prelude.{◌≡◌, Bool, true, false, List}
use Rattle.std.proofs.Math.Path.{refl}
use Rattle.std.proofs.Common.{sym, true≢false}
use Rattle.rules.specs.Base.{out}
use Rattle.rules_calls.specs.declared.Got.{Got}
use Rattle.rules_calls.specs.State.{State, Way, or_else}
use Rattle.rules_calls.specs.Walking.{Candidate, Sight, on_sight}

-- a frame, or stuck
unfoldable pub ends : Got → Bool
ends (Got.Done f k) = true
ends Got.Missed = false
ends (Got.MissedAt t) = false
ends Got.Stuck = true

module _ {A : Type 0} (stop : Got → Sight → A) (next : List Candidate → State → A) (x : Sight) where
  pub sight-ends : (g : Got) → ends g ≡ true → on_sight (out g x) stop next ≡ stop g x
  unfolding ends on_sight
  sight-ends (Got.Done f k) e = refl
  sight-ends Got.Missed e = absurd (true≢false (sym e))
  sight-ends (Got.MissedAt t) e = absurd (true≢false (sym e))
  sight-ends Got.Stuck e = refl

  pub sight-goes : (g : Got) → ends g ≡ false → on_sight (out g x) stop next ≡ next x.found x.state
  unfolding ends on_sight
  sight-goes (Got.Done f k) e = absurd (true≢false e)
  sight-goes Got.Missed e = refl
  sight-goes (Got.MissedAt t) e = refl
  sight-goes Got.Stuck e = absurd (true≢false e)

module _ (s : State) (next : State → Way) where
  pub else-ends : (g : Got) → ends g ≡ true → or_else (out g s) next ≡ out g s
  unfolding ends or_else
  else-ends (Got.Done f k) e = refl
  else-ends Got.Missed e = absurd (true≢false (sym e))
  else-ends (Got.MissedAt t) e = absurd (true≢false (sym e))
  else-ends Got.Stuck e = refl

  pub else-goes : (g : Got) → ends g ≡ false → or_else (out g s) next ≡ next s
  unfolding ends or_else
  else-goes (Got.Done f k) e = absurd (true≢false e)
  else-goes Got.Missed e = refl
  else-goes (Got.MissedAt t) e = refl
  else-goes Got.Stuck e = absurd (true≢false e)
