-- A get is answered with Memory exactly if the state stands, no argument is refused, and every route came back empty. Assumes nothing.
use Rattle.std.specs.Prelude.{◌≡◌, refl, true, List, ℕ, Option}
use Rattle.std.proofs.Common.{⊎_elim, arith}
use Rattle.rules.specs.Base.{out}
use Rattle.rules.specs.Words.{Config}
use Rattle.rules.specs.declared.Request.{Request}
use Rattle.rules_calls.specs.declared.Got.TheVariants as Got
use Rattle.rules_calls.specs.State.{Way}
use Rattle.rules_calls.specs.Standing.{standing}
use Rattle.rules_calls.specs.Get.{routes}
use Rattle.rules_calls.specs.Calls.{Told, fresh, refusal, close, frame_of, get}
use Rattle.law_rules.specs.All.{true-false}
use Rattle.law_calls.specs.Checked.{refusal-range}
use Rattle.law_calls.specs.Answers.{unless-ind, standing-ind}

-- the routes came back empty: no frame, and no reservation that cannot be returned
abbrev pub Empty : Way → Type 0
Empty (out (Got.Done f k) s) = ⊥
Empty (out Got.Missed s) = Unit {0}
Empty (out (Got.MissedAt t) s) = Unit {0}
Empty (out Got.Stuck s) = ⊥

close-empty : (w : Way) → (close w).number ≡ 7 → Empty w
unfolding close
close-empty (out (Got.Done f k) s) e = absurd (omega (arith, e))
close-empty (out Got.Missed s) e = tt
close-empty (out (Got.MissedAt t) s) e = tt
close-empty (out Got.Stuck s) e = absurd (omega (arith, e))

empty-close : (w : Way) → Empty w → (close w).number ≡ 7
unfolding close
empty-close (out (Got.Done f k) s) e = absurd e
empty-close (out Got.Missed s) e = refl
empty-close (out (Got.MissedAt t) s) e = refl
empty-close (out Got.Stuck s) e = absurd e

module _ (c : Config) (q : Request) (name : Option ℕ) (t l b : List ℕ) where
  abbrev Why : Told → Type 0
  Why r = r.number ≡ 7 → (standing c t l b ≡ true) × ((refusal c q (frame_of name) ≡ 0) × Empty (routes c q name (fresh t l b)))

  -- a get that answers Memory came to its routes, and every one came back empty
  pub memory-missed : (get c q name t l b).number ≡ 7 → (standing c t l b ≡ true) × ((refusal c q (frame_of name) ≡ 0) × Empty (routes c q name (fresh t l b)))
  unfolding get
  memory-missed =
      standing-ind Why c (fresh t l b) _
      (λ S. unless-ind Why (refusal c q (frame_of name)) (fresh t l b) _
      (λ n e z. absurd (⊎_elim (λ r. omega (arith, z, e, r)) (λ r. omega (arith, z, e, r.1)) (refusal-range c q (frame_of name))))
      (λ e z. (S, (e, close-empty (routes c q name (fresh t l b)) z))))
      (λ _ z. absurd (omega (arith, z)))

  -- a get whose routes come back empty answers Memory
  pub missed-memory : standing c t l b ≡ true → refusal c q (frame_of name) ≡ 0 → Empty (routes c q name (fresh t l b)) → (get c q name t l b).number ≡ 7
  unfolding get
  missed-memory S fit w =
      standing-ind (λ (r : Told). r.number ≡ 7) c (fresh t l b) _
      (λ _. unless-ind (λ (r : Told). r.number ≡ 7) (refusal c q (frame_of name)) (fresh t l b) _
      (λ n e. absurd (omega (arith, e, fit)))
      (λ _. empty-close (routes c q name (fresh t l b)) w))
      (λ f. true-false S f)
