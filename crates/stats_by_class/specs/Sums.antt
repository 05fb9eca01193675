-- Sums by class over the first trees and locals, as the loops make them: parts of the definitions of statistics. Assumes nothing.
use Rattle.std.proofs.Math.Path.{◌≡◌}
use Rattle.std.specs.Prelude.{refl, Bool, true, false, List, ℕ, ◌+◌, ◌-◌, ◌*◌, ◌^◌, ◌<◌, ◌≤◌, eqb, length, get_or, set, replicate}
use Rattle.std.proofs.Common.{sym, ◌∙◌, add-zero, mul-le-mul_right, arith, length-set, get_or-set_same, get_or-set_other, eqb-true}
use Rattle.std.proofs.Math.ListN.{get_or-replicate}
use Rattle.std.proofs.lemmas.Bool.{eqb-false}
use Rattle.law_rules.specs.Sum.{sum_more}
use Rattle.rules.specs.Base.{pick, sum}
use Rattle.rules.specs.Words.{tree_frames, entry_at, local_at}
use Rattle.rules_calls.specs.Standing.{tree_on}

-- of tree t, if its entry has class k: its free
unfoldable pub free_at : List ℕ → ℕ → ℕ → ℕ
free_at ts k t = pick (eqb (entry_at ts t).class k) (entry_at ts t).free 0

-- 2,048 − free
unfoldable pub alloc_at : ℕ → List ℕ → ℕ → ℕ → ℕ
alloc_at z ts k t = pick (eqb (entry_at ts t).class k) (tree_frames z - (entry_at ts t).free) 0

-- 1
unfoldable pub tree_at : List ℕ → ℕ → ℕ → ℕ
tree_at ts k t = pick (eqb (entry_at ts t).class k) 1 0

-- of local j, if it is present and its tree's entry has class k: its free
unfoldable pub held_on : ℕ → List ℕ → List ℕ → ℕ → ℕ → ℕ
held_on z ts ls k j = pick (local_at ls j).present (pick (eqb (entry_at ts (tree_on z (local_at ls j))).class k) (local_at ls j).free 0) 0

-- eight numbers, one for each class: the sums of f over the first n, each at most m times n
pub record Summed (f : ℕ → ℕ → ℕ) (m : ℕ) (a : List ℕ) (n : ℕ) : Type 0 where
  pub len : length a ≡ 8
  pub sums : (k : ℕ) → k < 8 → get_or a k 0 ≡ sum (f k) 0 n
  pub most : (k : ℕ) → k < 8 → get_or a k 0 ≤ m * n

-- two tests of a number, either first
pub both-picked : (a b : Bool) (x : ℕ) → pick a (pick b x 0) 0 ≡ pick b (pick a x 0) 0
both-picked true b x = refl
both-picked false true x = refl
both-picked false false x = refl

-- a number added at place i
pub added : (a : List ℕ) (i x k : ℕ) → i < length a → get_or (set a i (get_or a i 0 + x)) k 0 ≡ get_or a k 0 + pick (eqb i k) x 0
added a i x k l = by (eqb i k) refl
  where
    by : (b : Bool) → eqb i k ≡ b → get_or (set a i (get_or a i 0 + x)) k 0 ≡ get_or a k 0 + pick (eqb i k) x 0
    by true e = let q : i ≡ k = eqb-true i k e in rw (e, ← q) (get_or-set_same a i (get_or a i 0 + x) 0 l)
    by false e = rw (e, get_or-set_other a i k (get_or a i 0 + x) 0 (λ (q : k ≡ i). eqb-false i k e (sym q)), add-zero)

module _ (f : ℕ → ℕ → ℕ) (m : ℕ) where
  -- over nothing
  pub summed-none : Summed f m (replicate 8 0) 0
  unfolding sum
  summed-none = record { len = refl; sums = λ k l. zeros k l; most = λ k l. rw (zeros k l) (omega arith) }
    where
      zeros : (k : ℕ) → k < 8 → ◌≡◌ {A = ℕ} (get_or (replicate 8 0) k 0) 0
      zeros k l = get_or-replicate 8 k 0 0 l

  -- over one more, whose class is i
  pub summed-more : (a : List ℕ) (n i x : ℕ) → i < 8 → x ≤ m → ((k : ℕ) → f k n ≡ pick (eqb i k) x 0) → Summed f m a n
      → Summed f m (set a i (get_or a i 0 + x)) (n + 1)
  summed-more a n i x l h e s = record {
    len = length-set a i (get_or a i 0 + x) ∙ s.len;
    sums = λ k b. rw (added a i x k (rw s.len l), s.sums k b, sum_more, e k);
    most = λ k b. let p : pick (eqb i k) x 0 ≤ m = at-most (eqb i k) in let q : get_or a k 0 ≤ m * n = s.most k b in rw (added a i x k (rw s.len l)) (omega arith);
  }
    where
      at-most : (b : Bool) → pick b x 0 ≤ m
      at-most true = h
      at-most false = omega arith

  -- they are small
  pub summed-few : (a : List ℕ) (n : ℕ) → m ≤ 2 ^ 28 → n ≤ 1024 → Summed f m a n → (k : ℕ) → k < 8 → get_or a k 0 < 2 ^ 40
  summed-few a n h l s k b =
      let p : get_or a k 0 ≤ m * n = s.most k b in
      let q : m * n ≤ 2 ^ 28 * n = mul-le-mul_right n h in
      omega arith

-- by which a caller's bounds are found
pub ruleset few = (summed-few)
