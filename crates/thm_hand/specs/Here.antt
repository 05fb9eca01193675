-- Laws of what is in hand at a tree, and of a local's share of it. Assumes nothing.
use Rattle.std.specs.Prelude.{◌≡◌, true, false, ◌≢◌, List, ℕ, ◌+◌, ◌<◌, ◌≤◌, length, set}
use Rattle.std.proofs.Common.{sym, ap, ◌∙◌, arith, eq-eqb, ne_eqb}
use Rattle.std.proofs.Math.Decide.{ℕ_discrete}
use Rattle.std.proofs.Math.ListN.{length-set}
use Rattle.rules.specs.Words.{local_of, local_at}
use Rattle.rules.specs.declared.Local.{Local}
use Rattle.rules_calls.specs.Standing.{tree_on}
use Rattle.thm_hand.specs.Hand.{here, share, holds, shares, holders}
use Rattle.law_rules.specs.RoundTrips.{present-lt}
use Rattle.law_rules.specs.SumTerms.{sum-ge}
use Rattle.law_rules.specs.Lists.{sum-set}

pub here-same : (t n i : ℕ) → i ≡ t → here t n i ≡ n
unfolding here
here-same t n i e = rw (eq-eqb i t e)

pub here-other : (t n i : ℕ) → i ≢ t → here t n i ≡ 0
unfolding here
here-other t n i e = rw (ne_eqb i t e)

pub here-zero : (t i : ℕ) → here t 0 i ≡ 0
here-zero t i = go (ℕ_discrete i t)
  where
    go : Dec (i ≡ t) → here t 0 i ≡ 0
    go (yes e) = here-same t 0 i e
    go (no e) = here-other t 0 i e

pub here-add : (t n m i : ℕ) → here t (n + m) i ≡ here t n i + here t m i
here-add t n m i = go (ℕ_discrete i t)
  where
    go : Dec (i ≡ t) → here t (n + m) i ≡ here t n i + here t m i
    go (yes e) = omega (arith, here-same t (n + m) i e, here-same t n i e, here-same t m i e)
    go (no e) = omega (arith, here-other t (n + m) i e, here-other t n i e, here-other t m i e)

-- a number taken in two parts
pub here-part : (t a b n i : ℕ) → a + b ≡ n → here t a i + here t b i ≡ here t n i
here-part t a b n i e = sym (here-add t a b i) ∙ ap (λ (x : ℕ). here t x i) e

-- ---- a local's share
pub share-here : (z : ℕ) (l : Local) (i : ℕ) → l.present ≡ true → share z l i ≡ here (tree_on z l) l.free i
unfolding share
share-here z l i p = rw p

pub holds-here : (z : ℕ) (l : Local) (i : ℕ) → l.present ≡ true → holds z l i ≡ here (tree_on z l) 1 i
unfolding holds
holds-here z l i p = rw p

pub share-none : (z : ℕ) (l : Local) (i : ℕ) → l.present ≡ false → share z l i ≡ 0
unfolding share
share-none z l i p = rw p

pub holds-none : (z : ℕ) (l : Local) (i : ℕ) → l.present ≡ false → holds z l i ≡ 0
unfolding holds
holds-none z l i p = rw p

-- ---- and of all locals
module _ (z i : ℕ) (ls : List ℕ) (j : ℕ) where
  pub shares-ge : j < length ls → share z (local_at ls j) i ≤ shares z i ls
  unfolding shares
  shares-ge lt = sum-ge (λ x. share z (local_at ls x) i) 0 (length ls) j (omega arith) (omega arith)

  pub holders-ge : j < length ls → holds z (local_at ls j) i ≤ holders z i ls
  unfolding holders
  holders-ge lt = sum-ge (λ x. holds z (local_at ls x) i) 0 (length ls) j (omega arith) (omega arith)

  -- a word stored
  pub shares-set : (w : ℕ) → j < length ls → shares z i (set ls j w) + share z (local_at ls j) i ≡ shares z i ls + share z (local_of w) i
  unfolding shares
  shares-set w lt = rw length-set (sum-set (λ x. share z (local_of x) i) ls j w (length ls) lt lt)

  pub holders-set : (w : ℕ) → j < length ls → holders z i (set ls j w) + holds z (local_at ls j) i ≡ holders z i ls + holds z (local_of w) i
  unfolding holders
  holders-set w lt = rw length-set (sum-set (λ x. holds z (local_of x) i) ls j w (length ls) lt lt)

  -- a present local on the tree is a holder of it, with no more than all locals
  pub on-holds : (local_at ls j).present ≡ true → tree_on z (local_at ls j) ≡ i → 0 < holders z i ls
  on-holds p e = omega (arith, holders-ge (present-lt ls j p), holds-here z (local_at ls j) i p, here-same (tree_on z (local_at ls j)) 1 i (sym e))

  pub on-shares : (local_at ls j).present ≡ true → tree_on z (local_at ls j) ≡ i → (local_at ls j).free ≤ shares z i ls
  on-shares p e = omega (arith, shares-ge (present-lt ls j p), share-here z (local_at ls j) i p, here-same (tree_on z (local_at ls j)) (local_at ls j).free i (sym e))
