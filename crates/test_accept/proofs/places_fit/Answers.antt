-- Every place fits, or one does not. Assumes nothing.
use Rattle.std.specs.Prelude.{◌≡◌, Bool, true, false, List, ℕ, ◌<◌, ◌≤◌, length}
use Rattle.std.specs.Bool.{MatchBool}
use Rattle.std.specs.List.{AllWithin, HoldsAt}
use Rattle.std.proofs.Common.{rules, tests, sym, arith}
use Rattle.std.proofs.lemmas.Iterator.{YieldsList-from_slice, cases_from_all}
use borrow.Author.Tests.{le-leb, lt-leb}
use Rattle.rules.specs.Base.{all_below}
use Rattle.law_rules.specs.All.{all-make, all-fails}
use Rattle.law_rules.specs.Rows.{place_fits}
use Rattle.test_accept.proofs.places_fit.Goals as goal

by_places : (ps : List ℕ) → length ps ≡ 8 → (r : Bool) → MatchBool r (AllWithin (λ p. p ≤ 33) ps 0 (length ps)) ((k : ℕ) × (k < length ps) × HoldsAt (λ p. 33 < p) ps k) → r ≡ all_below 8 (place_fits ps)
by_places ps e true m = sym (all-make 8 (place_fits ps) (λ k l. le-leb _ _ (m k 0 (omega arith) (omega arith))))
by_places ps e false m = sym (all-fails 8 (place_fits ps) m.0 (omega arith) (lt-leb _ _ (m.2 0)))

pub returns : goal.returns
returns c = by_places c.args.h.places (omega arith) c.all.result
    (cases_from_all _ _ _ (λ p. p ≤ 33) (λ p. 33 < p) c.all.ensures.ran (YieldsList-from_slice c.args.h.places cc) (λ x q k. search (rules, tests)) (λ x q k. search (rules, tests)))
