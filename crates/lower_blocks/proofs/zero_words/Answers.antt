-- `lower_blocks::zero_words` meets its contract. Assumes nothing.
use Rattle.std.proofs.Common.{◌≡◌, List, ℕ, Bool, true, false, ◌+◌, ◌*◌, ◌<◌, ◌≤◌, ◌^◌, get_or, length, eqb, eq-eqb, sym, ◌∙◌, arith, rules, tests, MatchBool}
use Prim.Native.Nat.{zero, suc}
use Rattle.std.specs.List.{HoldsAt, AllWithin}
use Rattle.std.proofs.lemmas.Iterator.{cases_from_all, YieldsList-from_slice}
use Rattle.rules.specs.Lower.{held}
use Rattle.law_rules.specs.Run.{run_none, held-some, zero_more}
use Rattle.lower_words.specs.Part.{part, part-length, part-at}
use Rattle.lower_blocks.proofs.zero_words.Goals as goal

module _ (ws : List ℕ) (a n : ℕ) (inside : a + n ≤ length ws) where
  zeros : ((i : ℕ) → i < n → get_or ws (a + i) 0 ≡ 0) → (k : ℕ) → k ≤ n → held ws (a * 64) (k * 64) ≡ 0
  zeros z zero l = run_none ws (a * 64)
  zeros z (suc k) l = let e : k + 1 ≡ suc k = omega arith in rw e at (zero_more ws a k (zeros z k (omega arith)) (z k (omega arith)))

  tested : ((i : ℕ) → get_or ws i 0 < 2 ^ 64) → (r : Bool) → MatchBool r (AllWithin (λ x. x ≡ 0) (part ws a n) 0 (length (part ws a n))) ((k : ℕ) × (k < length (part ws a n)) × HoldsAt (λ x. x ≡ 0 → ⊥) (part ws a n) k)
      → r ≡ eqb (held ws (a * 64) (n * 64)) 0
  tested fits true h = sym (eq-eqb _ _ (zeros (λ i l. sym (part-at ws a n i l) ∙ h i 0 (omega arith) (omega (arith, part-length ws a n inside))) n (omega arith)))
  tested fits false (k, l, f) =
      let m : k < n = omega (arith, part-length ws a n inside) in
      sym (held-some ws a n k m (fits (a + k)) (rw (part-at ws a n k m) at (f 0)))

pub returns : goal.returns
returns c =
    tested c.args.words.now c.args.at c.args.n c.requires (λ i. (c.type_inv.words i).fits) _
    (cases_from_all _ _ _ (λ x. x ≡ 0) (λ x. x ≡ 0 → ⊥) c.all.ensures.ran (YieldsList-from_slice (part c.args.words.now c.args.at c.args.n) cc) (λ x q k. search (rules, tests)) (λ x q k. search (rules, tests)))
