-- Sums over the slots of locals, of a local's share over the trees, and over the trees of a class. Assumes nothing.
use Rattle.std.specs.Prelude.{◌≡◌, refl, Bool, true, false, List, ℕ, zero, suc, ◌+◌, ◌*◌, ◌<◌}
use Rattle.std.proofs.Common.{sym, ◌∙◌, zero-add, add-mul, zero-mul, arith, eq-eqb, ne_eqb}
use Rattle.std.proofs.Math.Path.{ap}
use Rattle.std.proofs.Math.Nat.{mul_comm}
use Rattle.std.proofs.Math.Dec.{eqb}
use Rattle.rules.specs.Base.{pick, sum}
use Rattle.rules.specs.Words.{Config, trees_of, locals_of, slot, entry_at}
use Rattle.rules.specs.declared.Local.{Local}
use Rattle.rules_calls.specs.Standing.{tree_on}
use Rattle.rules_calls.specs.Statistics.{over_class}
use Rattle.law_rules.specs.Sum.{sum-add, sum-shift, sum-zero, sum-ext}
use Rattle.law_rules.specs.SumTerms.{sum-only, sum-plus, sum-swap}
use Rattle.thm_hand.specs.Hand.{share}
use Rattle.thm_hand.specs.Here.{here-same, here-other, share-here, share-none}

-- over the locals by class, then index: over all locals
pub sum-slots : (ps : List ℕ) (g : ℕ → ℕ) (m : ℕ) → sum (λ k. sum (λ i. g (slot ps k i)) 0 (locals_of ps k)) 0 m ≡ sum g 0 (sum (locals_of ps) 0 m)
unfolding sum slot
sum-slots ps g zero = refl
sum-slots ps g (suc m) =
    rw (zero-add m)
    (
    let a : sum g (sum (locals_of ps) 0 m + 0) (locals_of ps m) ≡ sum (λ i. g (sum (locals_of ps) 0 m + i)) 0 (locals_of ps m) = sum-shift g (sum (locals_of ps) 0 m) 0 (locals_of ps m) in
    let b : sum g 0 (sum (locals_of ps) 0 m + locals_of ps m) ≡ sum g 0 (sum (locals_of ps) 0 m) + sum g (0 + sum (locals_of ps) 0 m) (locals_of ps m) = sum-add g 0 (sum (locals_of ps) 0 m) (locals_of ps m) in
    let e : 0 + sum (locals_of ps) 0 m ≡ sum (locals_of ps) 0 m + 0 = omega arith in
    let d : sum g (0 + sum (locals_of ps) 0 m) (locals_of ps m) ≡ sum g (sum (locals_of ps) 0 m + 0) (locals_of ps m) = ap (λ (x : ℕ). sum g x (locals_of ps m)) e in
    omega (arith, a, b, d, sum-slots ps g m))

-- a present local's free lies on one tree, an absent one has none
pub sum-share : (z n : ℕ) (l : Local) (p : ℕ → Bool) → (l.present ≡ true → tree_on z l < n)
    → sum (λ t. pick (p t) (share z l t) 0) 0 n ≡ pick l.present (pick (p (tree_on z l)) l.free 0) 0
sum-share z n l p inside = go l.present refl
  where
    none : (b : Bool) → ◌≡◌ {A = ℕ} (pick b 0 0) 0
    none true = refl
    none false = refl

    go : (b : Bool) → l.present ≡ b → sum (λ t. pick (p t) (share z l t) 0) 0 n ≡ pick b (pick (p (tree_on z l)) l.free 0) 0
    go true e =
        sum-only (λ t. pick (p t) (share z l t) 0) n (tree_on z l) (inside e)
        (λ i ne. ap (λ (x : ℕ). pick (p i) x 0) (share-here z l i e ∙ here-other (tree_on z l) l.free i ne) ∙ none (p i))
        ∙ ap (λ (x : ℕ). pick (p (tree_on z l)) x 0) (share-here z l (tree_on z l) e ∙ here-same (tree_on z l) l.free (tree_on z l) refl)
    go false e = sum-zero (λ t. pick (p t) (share z l t) 0) 0 n (λ i a b. ap (λ (x : ℕ). pick (p i) x 0) (share-none z l i e) ∙ none (p i))

-- a sum, or nothing
pub pick-sum : (b : Bool) (f : ℕ → ℕ) (a n : ℕ) → pick b (sum f a n) 0 ≡ sum (λ j. pick b (f j) 0) a n
pick-sum true f a n = refl
pick-sum false f a n = sym (sum-zero (λ j. 0) a n (λ i l m. refl))

-- ---- over the trees of class k
pick-plus : (b : Bool) (x y : ℕ) → pick b (x + y) 0 ≡ pick b x 0 + pick b y 0
pick-plus true x y = refl
pick-plus false x y = refl

pick-times : (b : Bool) (m : ℕ) → pick b m 0 ≡ pick b 1 0 * m
pick-times true m = omega arith
pick-times false m = omega (arith, zero-mul m)

times-one : (p : ℕ → Bool) (m n : ℕ) → sum (λ t. pick (p t) m 0) 0 n ≡ sum (λ t. pick (p t) 1 0) 0 n * m
unfolding sum
times-one p m zero = omega (arith, zero-mul m)
times-one p m (suc n) = omega (arith, times-one p m n, add-mul (sum (λ t. pick (p t) 1 0) 0 n) (pick (p (0 + n)) 1 0) m, pick-times (p (0 + n)) m)

module _ (c : Config) (ts : List ℕ) where
  pub over-plus : (k : ℕ) (f g : ℕ → ℕ) → over_class c ts k (λ t. f t + g t) ≡ over_class c ts k f + over_class c ts k g
  unfolding over_class
  over-plus k f g =
      sum-ext _ _ 0 (trees_of c) (λ t a b. pick-plus (eqb (entry_at ts t).class k) (f t) (g t))
      ∙ sum-plus (λ t. pick (eqb (entry_at ts t).class k) (f t) 0) (λ t. pick (eqb (entry_at ts t).class k) (g t) 0) 0 (trees_of c)

  pub over-ext : (k : ℕ) (f g : ℕ → ℕ) → ((t : ℕ) → t < trees_of c → f t ≡ g t) → over_class c ts k f ≡ over_class c ts k g
  unfolding over_class
  over-ext k f g h = sum-ext _ _ 0 (trees_of c) (λ t a b. ap (λ (x : ℕ). pick (eqb (entry_at ts t).class k) x 0) (h t (omega arith)))

  pub over-times : (k m : ℕ) → over_class c ts k (λ t. m) ≡ m * over_class c ts k (λ t. 1)
  unfolding over_class
  over-times k m = times-one (λ t. eqb (entry_at ts t).class k) m (trees_of c) ∙ mul_comm _ m

  -- over the eight classes: over all trees
  pub over-all : (f : ℕ → ℕ) → ((t : ℕ) → t < trees_of c → (entry_at ts t).class < 8) → sum (λ k. over_class c ts k f) 0 8 ≡ sum f 0 (trees_of c)
  unfolding over_class
  over-all f h =
      sum-swap (λ k t. pick (eqb (entry_at ts t).class k) (f t) 0) 0 8 0 (trees_of c)
      ∙ sum-ext _ f 0 (trees_of c) (λ t a b. one (entry_at ts t).class (f t) (h t (omega arith)))
    where
      one : (a v : ℕ) → a < 8 → sum (λ k. pick (eqb a k) v 0) 0 8 ≡ v
      one a v l =
          sum-only (λ k. pick (eqb a k) v 0) 8 a l (λ k ne. ap (λ (b : Bool). pick b v 0) (ne_eqb a k (λ e. ne (sym e))))
          ∙ ap (λ (b : Bool). pick b v 0) (eq-eqb a a refl)
