-- The slots of locals, by class, then index: each slot belongs to exactly one class and index. Assumes nothing.
use Rattle.std.specs.Prelude.{◌≡◌, List}
use Prim.Native.Nat.{ℕ, zero, suc, ◌+◌, ◌-◌, ◌<◌, ◌≤◌}
use Rattle.std.proofs.Common.{not-suc-le-zero, add-one}
use native.Mathlib.Omega.{arith}
use Rattle.std.proofs.Math.Decide.{dec_lt}
use Rattle.rules.specs.Base.{sum}
use Rattle.rules.specs.Words.{locals_of, slot, local_count}
use Rattle.law_rules.specs.Cases.{neither-below}
use Rattle.law_rules.specs.Sum.{sum_more}
use Rattle.law_rules.specs.SumTerms.{sum-prefix}

-- the slot j is that of a class and an index
pub record SlotOf (ps : List ℕ) (j : ℕ) : Type 0 where
  pub class : ℕ
  pub index : ℕ
  pub class_lt : class < 8
  pub index_lt : index < locals_of ps class
  pub is : slot ps class index ≡ j

-- the sum before the next class
next : (f : ℕ → ℕ) (k : ℕ) → sum f 0 (suc k) ≡ sum f 0 k + f k
next f k = rw (← add-one k) (sum_more f k)

module _ (ps : List ℕ) where
  -- a slot is one of the lent words
  pub slot_lt : (k i : ℕ) → k < 8 → i < locals_of ps k → slot ps k i < local_count ps
  unfolding slot local_count
  slot_lt k i hk hi =
      let a : sum (locals_of ps) 0 (suc k) ≤ sum (locals_of ps) 0 8 = sum-prefix (locals_of ps) 0 (suc k) 8 hk in
      omega (arith, a, next (locals_of ps) k)

  -- each slot has a class and an index
  find : (m j : ℕ) → m ≤ 8 → j < sum (locals_of ps) 0 m → SlotOf ps j
  unfolding slot sum
  find zero j h l = absurd (not-suc-le-zero l)
  find (suc m) j h l = go (dec_lt j (sum (locals_of ps) 0 m)) (find m j (omega arith))
    where
      go : Dec (j < sum (locals_of ps) 0 m) → (j < sum (locals_of ps) 0 m → SlotOf ps j) → SlotOf ps j
      go (yes q) k = k q
      go (no q) k =
          record {
            class = m;
            index = j - sum (locals_of ps) 0 m;
            class_lt = h;
            index_lt = omega (arith, l, next (locals_of ps) m);
            is = omega arith;
          }

  pub slot_of : (j : ℕ) → j < local_count ps → SlotOf ps j
  unfolding local_count
  slot_of j l = find 8 j (omega arith) l

  -- and only one
  before : (k i m x : ℕ) → k < m → i < locals_of ps k → slot ps k i < slot ps m x
  unfolding slot
  before k i m x h hi = omega (arith, sum-prefix (locals_of ps) 0 (suc k) m h, next (locals_of ps) k)

  pub slot-class : (k i m x : ℕ) → i < locals_of ps k → x < locals_of ps m → slot ps k i ≡ slot ps m x → k ≡ m
  slot-class k i m x hi hx e = neither-below k m (λ l. omega (arith, before k i m x l hi)) (λ l. omega (arith, before m x k i l hx))

  -- the next index is the next slot
  pub slot_next : (k i : ℕ) → slot ps k (i + 1) ≡ slot ps k i + 1
  unfolding slot
  slot_next k i = omega arith
