-- What the call `statistics` tells of a state that passes the standing rules. Assumes nothing.
use Rattle.rules_calls.specs.declared.Refusal.{Refusal}
use Rattle.std.specs.Prelude.{◌≡◌, true, List, eqb, length, get_or}
use Rattle.std.proofs.Math.Path.{refl, sym, ap}
use Rattle.std.proofs.Common.{◌∙◌, subst, not-suc-le-zero, le_of_suc-le-suc, eq-eqb, Result}
use Prim.Native.Nat.{ℕ, zero, suc, ◌+◌, ◌<◌}
use native.Mathlib.Omega.{arith}
use Rattle.rules.specs.Base.{sum}
use Rattle.rules.specs.Words.{Config, config}
use Rattle.rules.specs.declared.Header.{Header}
use Rattle.rules_calls.specs.declared.Tally.{Tally}
use Rattle.rules_calls.specs.declared.Totals.{Totals}
use Rattle.rules_calls.specs.Standing.{standing}
use Rattle.rules_calls.specs.Calls.{outcome_of}
use Rattle.rules_calls.specs.Statistics.{in_use, tally, tallies, reporting, statistics, told_totals}
use Rattle.rules_calls.specs.Promises.{Words, StatisticsPromise}
use Rattle.law_rules.specs.Sum.{sum-none, sum_one, sum-add}
use Rattle.law_rules.specs.Sizes.{Size, size-eleven}
use Rattle.law_rules.specs.All.{true-false}
use Rattle.law_calls.specs.Steps.{ifte-ind}
use Rattle.thm_keeps.specs.Standing.{TreeWords}
use Rattle.thm_truth.specs.Truthful.{free_of, Truthful}
use Rattle.thm_truth.specs.Truth.{total-free, rows-free, in-use-held}

module _ (c : Config) (ts ls : List ℕ) where
  -- the row of each class
  tally-at : (k n i : ℕ) (d : Tally) → i < n → get_or (tallies c ts ls k n) i d ≡ tally c ts ls (k + i)
  unfolding tallies
  tally-at k zero i d h = absurd (not-suc-le-zero h)
  tally-at k (suc n) zero d h = let e : k ≡ k + 0 = omega arith in ap (tally c ts ls) e
  tally-at k (suc n) (suc i) d h = let e : k + 1 + i ≡ k + suc i = omega arith in tally-at (k + 1) n i d (le_of_suc-le-suc h) ∙ ap (tally c ts ls) e

  tallies-length : (k n : ℕ) → length (tallies c ts ls k n) ≡ n
  unfolding tallies
  tallies-length k zero = refl
  tallies-length k (suc n) = ap suc (tallies-length (k + 1) n)

  tallies-free : (k n : ℕ) → free_of (tallies c ts ls k n) ≡ sum (λ i. (tally c ts ls i).free) k n
  unfolding tallies free_of
  tallies-free k zero = sym (sum-none (λ i. (tally c ts ls i).free) k)
  tallies-free k (suc n) =
      let o : 1 + n ≡ suc n = omega arith in
      let a : sum (λ i. (tally c ts ls i).free) k (suc n) ≡ sum (λ i. (tally c ts ls i).free) k 1 + sum (λ i. (tally c ts ls i).free) (k + 1) n = ap (sum (λ i. (tally c ts ls i).free) k) (sym o) ∙ sum-add (λ i. (tally c ts ls i).free) k 1 n in
      omega (arith, a, sum_one (λ i. (tally c ts ls i).free) k, tallies-free (k + 1) n)

pub statistics-true : (c : Config) → Size c.tree_order → (ts ls bs : List ℕ) (rows : List Tally) → TreeWords ts → standing c ts ls bs ≡ true → length rows ≡ 8
    → Truthful c ts ls bs (statistics c ts ls bs rows)
unfolding statistics tally
statistics-true c sz ts ls bs rows w S e =
    ifte-ind (Truthful c ts ls bs) (standing c ts ls bs) _ _
    (λ _. ifte-ind (Truthful c ts ls bs) (eqb (length rows) 8) _ _
    (λ _. record {
      number = refl;
      free = total-free c sz ts ls bs w S;
      eight = tallies-length c ts ls 0 8;
      rows = tallies-free c ts ls 0 8 ∙ rows-free c sz ts ls bs w S ∙ total-free c sz ts ls bs w S;
      used = λ k d lt. (let z : 0 + k ≡ k = omega arith in ap (λ (x : Tally). x.used) (tally-at c ts ls 0 8 k d lt) ∙ ap (in_use c ts ls) z ∙ in-use-held c sz ts ls bs w S k);
    })
    (λ f. true-false (eq-eqb _ _ e) f))
    (λ f. true-false S f)

-- so does the answer that the promise of `statistics` allows
pub promise-true : (h : Header) (pairs : List ℕ) (s : Words) (rows : List Tally) (r : Result Totals Refusal) (filled : List Tally) → StatisticsPromise h pairs s rows r filled
    → TreeWords s.trees → standing (config h pairs) s.trees s.locals s.bits ≡ true → length rows ≡ 8
    → Truthful (config h pairs) s.trees s.locals s.bits (told_totals r filled)
promise-true h pairs s rows r filled p w S e =
    subst (Truthful (config h pairs) s.trees s.locals s.bits) (sym p) (statistics-true (config h pairs) size-eleven s.trees s.locals s.bits rows w S e)
