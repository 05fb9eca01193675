-- What a drain that is Done leaves: the proof. Assumes nothing.
use Rattle.std.specs.Prelude.{◌≡◌, true, List, ℕ, get_or}
use Rattle.std.proofs.Common.{sym, ap, ◌∙◌, subst, arith}
use Rattle.rules.specs.Words.{Config, config, local_of, entry_at}
use Rattle.rules_calls.specs.Standing.{standing}
use Rattle.rules_calls.specs.Calls.{Told, fresh, told, drain}
use Rattle.law_rules.specs.Clear.{clear-held}
use Rattle.law_rules.specs.All.{true-false}
use Rattle.law_rules.specs.Sizes.{size-eleven}
use Rattle.law_rules.specs.RoundTrips.{absent-word, bit-false}
use Rattle.thm_hand.specs.Hand.{holders, shares}
use Rattle.law_calls.specs.Answers.{standing-ind}
use Rattle.thm_keeps.specs.Calls.{DrainKeeps, drain-keeps}
use Rattle.thm_keeps.specs.Holders.{on_none}
use Rattle.thm_keeps.specs.Standing.{test-kept}
use Rattle.thm_sequence.specs.DrainDone.{DrainDone}

-- a drain that is Done found words that pass the state test
done-stood : (c : Config) (t l b : List ℕ) → (drain c t l b).number ≡ 0 → standing c t l b ≡ true
unfolding drain
done-stood c t l b = standing-ind (λ (r : Told). r.number ≡ 0 → standing c t l b ≡ true) c (fresh t l b) _ (λ h _. h) (λ _ e. absurd (omega (arith, e)))

-- where every local word is 0 no tree has a holder, and none has frames in a local
none-on : (ls : List ℕ) → ((j : ℕ) → get_or ls j 0 ≡ 0) → (t : ℕ) → (holders 11 t ls ≡ 0) × (shares 11 t ls ≡ 0)
none-on ls absent t = on_none 11 t ls (λ j p o. true-false p (ap (λ (x : ℕ). (local_of x).present) (absent j) ∙ absent-word))

-- the theorem
pub drain-done : DrainDone
drain-done h pairs s r e P z w =
    let S = done-stood (config h pairs) s.trees s.locals s.bits (sym (ap (λ (x : Told). x.number) P) ∙ z) in
    let K = test-kept (config h pairs) size-eleven s.trees s.locals s.bits w S in
    let D : DrainKeeps (config h pairs) s.bits (told r e.trees e.locals e.bits) =
    subst (DrainKeeps (config h pairs) s.bits) (sym P) (drain-keeps (config h pairs) s.trees s.locals s.bits size-eleven S K) in
    record {
      locals = D.absent;
      unreserved = λ t lt. bit-false (entry_at e.trees t).reserved (omega (arith, D.kept.one t lt, (none-on e.locals D.absent t).0));
      free = λ t lt. omega (arith, D.kept.sum t lt, (none-on e.locals D.absent t).1, clear-held 11 e.bits t size-eleven.least);
      bits = D.bits;
    }
