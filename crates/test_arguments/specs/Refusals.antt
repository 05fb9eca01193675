-- How a refusal is told, that Done is none, and the three ways through the tests of a get and of a put. Assumes nothing.
use Rattle.std.specs.Prelude.{◌≡◌, refl, Bool, true, false, ℕ, Result, Ok, Err, ⊤}
use Rattle.std.proofs.Common.{sym, ap, ◌∙◌}
use Rattle.rules.specs.Base.{ifte}
use Rattle.rules.specs.Words.{Config}
use Rattle.rules.specs.declared.Request.{Request}
use Rattle.rules_calls.specs.declared.Refusal.{Refusal}
use Rattle.rules_calls.specs.State.{State}
use Rattle.rules_calls.specs.Standing.{standing}
use Rattle.rules_calls.specs.Calls.{Told, telling, number_of, outcome_of, refusal, unless, if_standing}

-- a refusal is told with its number, and nothing is changed
refusal-told : (x : Refusal) (s : State) (next : State → Told) → unless (number_of x) s next ≡ telling (number_of x) 0 0 s
unfolding unless number_of
refusal-told Refusal.Broken s next = refl
refusal-told Refusal.Order s next = refl
refusal-told Refusal.Bounds s next = refl
refusal-told Refusal.Misaligned s next = refl
refusal-told Refusal.Class s next = refl
refusal-told Refusal.Local s next = refl
refusal-told Refusal.Memory s next = refl
refusal-told Refusal.NotHeld s next = refl
refusal-told Refusal.Stuck s next = refl
refusal-told Refusal.Config s next = refl
refusal-told Refusal.Rows s next = refl

-- what the argument tests answered
pub done-checked : (r : Result ⊤ Refusal) (n : ℕ) → outcome_of r ≡ n → r ≡ Ok tt → n ≡ 0
unfolding outcome_of
done-checked r n e d = sym e ∙ ap outcome_of d

-- the state test fails; an argument test does; both pass, and the call goes on
module _ (c : Config) (q : Request) (f : ℕ) (s : State) (next : State → Told) {b : Bool} (tested : b ≡ standing c s.trees s.locals s.bits) where
  pub state-broken : b ≡ false → telling 1 0 0 s ≡ if_standing c s (λ s1. unless (refusal c q f) s1 next)
  unfolding if_standing ifte
  state-broken e = rw (← tested, e)

  module _ (stands : b ≡ true) {o : Result ⊤ Refusal} (checked : outcome_of o ≡ refusal c q f) where
    pub argument-refused : {x : Refusal} → o ≡ Err x → telling (number_of x) 0 0 s ≡ if_standing c s (λ s1. unless (refusal c q f) s1 next)
    unfolding if_standing ifte outcome_of
    argument-refused e = rw (← tested, stands, ← checked, e, refusal-told _ s next)

    pub tests-passed : {w : Told} → o ≡ Ok tt → w ≡ next s → w ≡ if_standing c s (λ s1. unless (refusal c q f) s1 next)
    unfolding if_standing ifte unless outcome_of
    tests-passed e h = rw (← tested, stands, ← checked, e) h
