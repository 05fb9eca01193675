-- The locals that hold a tree, counted: one, none, all trees together. Assumes nothing.
use Rattle.std.specs.Prelude.{◌≡◌, refl, true, ◌⊎◌, List, ℕ, ◌<◌, ◌≤◌}
use Rattle.std.proofs.Common.{sym, ap, ◌∙◌, arith}
use Rattle.std.proofs.Math.Logic.{inl, inr, ⊎_elim}
use Rattle.std.proofs.Math.Decide.{ℕ_discrete}
use Rattle.std.proofs.Math.ListN.{length}
use Rattle.rules.specs.Base.{bit_of, sum}
use Rattle.rules.specs.Words.{local_at}
use Rattle.rules.specs.declared.Local.{Local}
use Rattle.rules_calls.specs.Standing.{tree_on, present_count}
use Rattle.law_rules.specs.Sum.{sum-zero, sum-ext, zero-at}
use Rattle.law_rules.specs.Cases.{neither-below}
use Rattle.law_rules.specs.All.{by}
use Rattle.law_rules.specs.SumTerms.{sum-only, sum-two, sum-find, sum-swap}
use Rattle.law_rules.specs.RoundTrips.{present-lt}
use Rattle.thm_hand.specs.Hand.{share, holds, shares, holders}
use Rattle.thm_hand.specs.Here.{here-same, here-other, share-here, holds-here, share-none, holds-none}

-- ---- one local
-- on the tree
pub holds_on : (z : ℕ) (l : Local) (t : ℕ) → l.present ≡ true → tree_on z l ≡ t → holds z l t ≡ 1
holds_on z l t p e = holds-here z l t p ∙ here-same (tree_on z l) 1 t (sym e)

pub share-on : (z : ℕ) (l : Local) (t : ℕ) → l.present ≡ true → tree_on z l ≡ t → share z l t ≡ l.free
share-on z l t p e = share-here z l t p ∙ here-same (tree_on z l) l.free t (sym e)

-- present and on the tree, or it neither holds the tree nor has a share of it
pub on_or : (z : ℕ) (l : Local) (t : ℕ) → ((l.present ≡ true) × (tree_on z l ≡ t)) ⊎ ((holds z l t ≡ 0) × (share z l t ≡ 0))
on_or z l t =
    by l.present
    (λ p. go p (ℕ_discrete t (tree_on z l)))
    (λ p. inr (holds-none z l t p, share-none z l t p))
  where
    go : l.present ≡ true → Dec (t ≡ tree_on z l) → ((l.present ≡ true) × (tree_on z l ≡ t)) ⊎ ((holds z l t ≡ 0) × (share z l t ≡ 0))
    go p (yes e) = inl (p, sym e)
    go p (no e) = inr (holds-here z l t p ∙ here-other (tree_on z l) 1 t e, share-here z l t p ∙ here-other (tree_on z l) l.free t e)

-- over all trees: a present local on one of them holds one
pub holds-all : (z : ℕ) (l : Local) (n : ℕ) → (l.present ≡ true → tree_on z l < n) → sum (holds z l) 0 n ≡ bit_of l.present
holds-all z l n inside =
    by l.present
    (λ p. sum-only (holds z l) n (tree_on z l) (inside p) (λ t ne. holds-here z l t p ∙ here-other (tree_on z l) 1 t ne) ∙ holds_on z l (tree_on z l) p refl ∙ ap bit_of (sym p))
    (λ p. sum-zero (holds z l) 0 n (λ t x y. holds-none z l t p) ∙ ap bit_of (sym p))

-- ---- all locals
-- the holders of all trees are the present locals
pub holders-all : (z : ℕ) (ls : List ℕ) (n : ℕ) → ((j : ℕ) → (local_at ls j).present ≡ true → tree_on z (local_at ls j) < n) → sum (λ t. holders z t ls) 0 n ≡ present_count ls (length ls)
unfolding holders present_count
holders-all z ls n inside =
    sum-swap (λ t j. holds z (local_at ls j) t) 0 n 0 (length ls)
    ∙ sum-ext (λ j. sum (λ t. holds z (local_at ls j) t) 0 n) (λ j. bit_of (local_at ls j).present) 0 (length ls) (λ j x y. holds-all z (local_at ls j) n (inside j))

module _ (z t : ℕ) (ls : List ℕ) where
  -- a tree with no holder is in no local
  pub none-on : holders z t ls ≡ 0 → (j : ℕ) → (local_at ls j).present ≡ true → tree_on z (local_at ls j) ≡ t → ⊥
  unfolding holders
  none-on e j p o = omega (arith, zero-at (λ x. holds z (local_at ls x) t) 0 (length ls) e j (omega arith) (let l : j < length ls = present-lt ls j p in omega arith), holds_on z (local_at ls j) t p o)

  -- and one that is in no local has no holder, and no share
  pub on_none : ((j : ℕ) → (local_at ls j).present ≡ true → tree_on z (local_at ls j) ≡ t → ⊥) → (holders z t ls ≡ 0) × (shares z t ls ≡ 0)
  unfolding holders shares
  on_none h = (
    sum-zero (λ x. holds z (local_at ls x) t) 0 (length ls) (λ j x y. ⊎_elim (λ o. absurd (h j o.0 o.1)) (λ o. o.0) (on_or z (local_at ls j) t)),
    sum-zero (λ x. share z (local_at ls x) t) 0 (length ls) (λ j x y. ⊎_elim (λ o. absurd (h j o.0 o.1)) (λ o. o.1) (on_or z (local_at ls j) t)),
  )

  -- a tree that is in one local alone has one holder, and that local's share
  pub only-on : (j : ℕ) → (local_at ls j).present ≡ true → tree_on z (local_at ls j) ≡ t
      → ((i : ℕ) → (local_at ls i).present ≡ true → tree_on z (local_at ls i) ≡ t → i ≡ j) → (holders z t ls ≡ 1) × (shares z t ls ≡ (local_at ls j).free)
  unfolding holders shares
  only-on j p o h = (
    sum-only (λ x. holds z (local_at ls x) t) (length ls) j (present-lt ls j p) (λ i ne. ⊎_elim (λ q. absurd (ne (h i q.0 q.1))) (λ q. q.0) (on_or z (local_at ls i) t)) ∙ holds_on z (local_at ls j) t p o,
    sum-only (λ x. share z (local_at ls x) t) (length ls) j (present-lt ls j p) (λ i ne. ⊎_elim (λ q. absurd (ne (h i q.0 q.1))) (λ q. q.1) (on_or z (local_at ls i) t)) ∙ share-on z (local_at ls j) t p o,
  )

  -- two holders are two
  two-before : (i j : ℕ) → i < j → (local_at ls i).present ≡ true → tree_on z (local_at ls i) ≡ t → (local_at ls j).present ≡ true → tree_on z (local_at ls j) ≡ t → 2 ≤ holders z t ls
  unfolding holders
  two-before i j l p o q r = omega (arith, sum-two (λ x. holds z (local_at ls x) t) (length ls) i j l (present-lt ls j q), holds_on z (local_at ls i) t p o, holds_on z (local_at ls j) t q r)

  -- with at most one holder, two locals on the tree are one
  pub one_on : holders z t ls ≤ 1 → (i j : ℕ) → (local_at ls i).present ≡ true → tree_on z (local_at ls i) ≡ t → (local_at ls j).present ≡ true → tree_on z (local_at ls j) ≡ t → i ≡ j
  one_on h i j p o q r = neither-below i j (λ l. omega (arith, two-before i j l p o q r)) (λ l. omega (arith, two-before j i l q r p o))

  -- a tree has no holder, or there is a local on it
  pub find-on : (holders z t ls ≡ 0) ⊎ ((j : ℕ) × ((j < length ls) × (((local_at ls j).present ≡ true) × (tree_on z (local_at ls j) ≡ t))))
  unfolding holders
  find-on = go (sum-find (λ x. holds z (local_at ls x) t) (length ls))
    where
      go : (sum (λ x. holds z (local_at ls x) t) 0 (length ls) ≡ 0) ⊎ ((j : ℕ) × ((j < length ls) × (0 < holds z (local_at ls j) t)))
          → (sum (λ x. holds z (local_at ls x) t) 0 (length ls) ≡ 0) ⊎ ((j : ℕ) × ((j < length ls) × (((local_at ls j).present ≡ true) × (tree_on z (local_at ls j) ≡ t))))
      go (inl e) = inl e
      go (inr (j, (l, p))) = inr (j, (l, ⊎_elim (λ q. q) (λ q. absurd (omega (arith, q.0))) (on_or z (local_at ls j) t)))
