-- The policy's answer against the pair's kind, and good pairs and configured classes as tests and as facts. Assumes nothing.
use Rattle.std.specs.Prelude.{◌≡◌, true, false, ℕ, ◌<◌, ◌≤◌, eqb, leb}
use Rattle.std.proofs.Common.{sym, ap, ◌∙◌, arith}
use Rattle.std.proofs.Math.ListN.{get_or}
use borrow.Author.Tests.{leb-true, le-leb, ltb-true, ltb-false, lt-ltb, eq-eqb, eqb-true, eqb-false}
use Rattle.rules.specs.Base.{pick}
use Rattle.rules.specs.Words.{Config, configured}
use Rattle.rules.specs.Policy.{pair_of, kind_of, cut_of, low_of, high_of, policy_of, policy, kind_at, good, Configured, Good}
use Rattle.rules.specs.declared.Kind.{Kind}
use Rattle.rules.specs.declared.Kind.TheVariants.{Invalid, Steal, Demote, Match}
use Rattle.law_rules.specs.All.{by}

-- 01's number of a kind: Invalid 0, Steal 1, Demote 2 or Match 3
abbrev pub kind_number : Kind → ℕ
kind_number Invalid = 0
kind_number Steal = 1
kind_number Demote = 2
kind_number (Match r) = 3

-- there are four kinds
pub kind-lt : (w : ℕ) → kind_of w < 4
unfolding kind_of
kind-lt w = omega arith

-- the rating of a Match
unfoldable pub rating_at : ℕ → ℕ → ℕ
rating_at w free = pick (leb (cut_of w) free) (high_of w) (low_of w)

-- the policy's answer of a word by its kind
module _ (w free : ℕ) where
  invalid-of : kind_of w ≡ 0 → policy_of w free ≡ Invalid
  unfolding policy_of
  invalid-of h = rw (eq-eqb _ _ h)

  steal-of : kind_of w ≡ 1 → policy_of w free ≡ Steal
  unfolding policy_of
  steal-of h = rw h

  demote-of : kind_of w ≡ 2 → policy_of w free ≡ Demote
  unfolding policy_of
  demote-of h = rw h

  match-of : kind_of w ≡ 3 → policy_of w free ≡ Match (rating_at w free)
  unfolding policy_of rating_at
  match-of h = rw h (by (leb (cut_of w) free) (λ e. rw e) (λ e. rw e))

  -- by the four kinds
  kinds-of : {X : Type 0} → (kind_of w ≡ 0 → X) → (kind_of w ≡ 1 → X) → (kind_of w ≡ 2 → X) → (kind_of w ≡ 3 → X) → X
  kinds-of f0 f1 f2 f3 =
      by (eqb (kind_of w) 0) (λ e. f0 (eqb-true _ _ e)) (λ n0.
      by (eqb (kind_of w) 1) (λ e. f1 (eqb-true _ _ e)) (λ n1.
      by (eqb (kind_of w) 2) (λ e. f2 (eqb-true _ _ e)) (λ n2.
      f3 (rest (kind_of w) (kind-lt w) (eqb-false _ _ n0) (eqb-false _ _ n1) (eqb-false _ _ n2)))))
    where
      rest : (k : ℕ) → k < 4 → (k ≡ 0 → ⊥) → (k ≡ 1 → ⊥) → (k ≡ 2 → ⊥) → k ≡ 3
      rest k l a b d = omega arith

  number_of : kind_number (policy_of w free) ≡ kind_of w
  number_of = kinds-of
      (λ h. ap kind_number (invalid-of h) ∙ sym h)
      (λ h. ap kind_number (steal-of h) ∙ sym h)
      (λ h. ap kind_number (demote-of h) ∙ sym h)
      (λ h. ap kind_number (match-of h) ∙ sym h)

module _ (c : Config) (o e : ℕ) where
  -- the kind does not depend on the free argument: the answer's number is the kind
  pub policy-number : (free : ℕ) → kind_number (policy c o e free) ≡ kind_at c o e
  unfolding policy kind_at
  policy-number free = number_of (pair_of c o e) free

  -- the other way
  pub invalid-kind : (free : ℕ) → policy c o e free ≡ Invalid → kind_at c o e ≡ 0
  invalid-kind free h = sym (policy-number free) ∙ ap kind_number h

  -- the other way
  pub steal-kind : (free : ℕ) → policy c o e free ≡ Steal → kind_at c o e ≡ 1
  steal-kind free h = sym (policy-number free) ∙ ap kind_number h

  -- the other way
  pub demote-kind : (free : ℕ) → policy c o e free ≡ Demote → kind_at c o e ≡ 2
  demote-kind free h = sym (policy-number free) ∙ ap kind_number h

  -- Match, with the rating at the free argument, exactly if the kind is 3
  pub policy-match : (free : ℕ) → kind_at c o e ≡ 3 → policy c o e free ≡ Match (rating_at (pair_of c o e) free)
  unfolding policy kind_at
  policy-match free = match-of (pair_of c o e) free

  -- the other way, whatever the rating
  pub match-kind : (free r : ℕ) → policy c o e free ≡ Match r → kind_at c o e ≡ 3
  match-kind free r h = sym (policy-number free) ∙ ap kind_number h

  -- good as a test and as a fact
  pub good-true : Good c o e → good c o e ≡ true
  unfolding good
  good-true h = le-leb _ _ h

  -- the fact, from the test
  pub good-fact : good c o e ≡ true → Good c o e
  unfolding good
  good-fact h = leb-true _ _ h

-- configured as a test and as a fact
module _ (c : Config) (k : ℕ) where
  pub configured-true : Configured c k → configured c.places k ≡ true
  unfolding configured
  configured-true h = lt-ltb _ _ h.1

  -- the fact, from the test
  pub configured-fact : k < 8 → configured c.places k ≡ true → Configured c k
  unfolding configured
  configured-fact l h = (l, ltb-true _ _ h)

  -- the fact, from the test
  pub unconfigured-fact : configured c.places k ≡ false → Configured c k → ⊥
  unfolding configured
  unconfigured-fact h g = let a : get_or c.places k 0 ≤ 0 = ltb-false _ _ h in omega (arith, g.1)
