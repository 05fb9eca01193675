-- Laws of the marks: one bit for each tree that a present local holds, in a bitmap of 1,024 bits. z is the order of a tree. Assumes nothing.
use Rattle.std.specs.Prelude.{◌≡◌, Bool, List, eqb, length, replicate}
use Rattle.std.proofs.Math.Path.{refl, sym}
use Rattle.std.proofs.Common.{ap, ◌∙◌, arith, pow_pos, eqb-true}
use Rattle.std.proofs.Math.Bool.{true, false, not}
use Prim.Native.Nat.{ℕ, ◌+◌, ◌*◌, ◌/◌, ◌%◌, ◌^◌, ◌<◌}
use Rattle.std.proofs.Math.Nat.{zero-div}
use Rattle.std.proofs.lemmas.List.{get_or-replicate}
use Rattle.std.proofs.lemmas.Bool.{eqb-false}
use Rattle.rules.specs.Base.{pick, both, all_below}
use Rattle.rules.specs.Words.{local_at}
use Rattle.rules.specs.Lower.{bit_at, bit, held, held_in, mark}
use Rattle.rules.specs.declared.Local.{Local}
use Rattle.rules_calls.specs.Standing.{tree_on, apart, apart_before}
use Rattle.law_rules.specs.All.{both-unit, both_false, all_none, all_more, all-next, all-make, all_same}
use Rattle.law_rules.specs.Cases.{by_side}
use Rattle.law_rules.specs.Sum.{sum-zero}
use Rattle.law_rules.specs.Block.{Block}
use Rattle.law_rules.specs.Mark.{Marked, marked, count-below, count-above, count_held}

-- a local holds the tree t
unfoldable pub holds_tree : ℕ → Local → ℕ → Bool
holds_tree z l t = both l.present (eqb t (tree_on z l))

-- the tree of each present local has a mark's place
abbrev pub OnTrees : ℕ → List ℕ → Type 0
OnTrees z ls = (j : ℕ) → j < length ls → (local_at ls j).present ≡ true → tree_on z (local_at ls j) < 1024

-- the trees that the first j locals hold are marked, and no others
pub record Marks (z : ℕ) (ls : List ℕ) (j : ℕ) (ms : List ℕ) : Type 0 where
  pub len : length ms ≡ 16
  pub unmarked : (t : ℕ) → t < 1024 → eqb (held_in ms 0 t) 0 ≡ all_below j (λ i. not (holds_tree z (local_at ls i) t))

-- a tree's mark is a block of the bitmap
pub mark-block : (ms : List ℕ) (t : ℕ) → length ms ≡ 16 → t < 1024 → Block ms 0 t
mark-block ms t e l = record { order = omega arith; inside = omega arith; small = omega arith }

-- at first none is marked
pub marks-none : (z : ℕ) (ls : List ℕ) → Marks z ls 0 (replicate 16 0)
unfolding held_in held
marks-none z ls = record { len = refl; unmarked = λ t l. ap (λ x. eqb x 0) (clear t l) ∙ sym (all_none _) }
  where
    ms : List ℕ
    ms = replicate 16 0

    no-bit : (i : ℕ) → bit_at 0 i ≡ 0
    no-bit i = let p : 0 < 2 ^ i = pow_pos i in rw (zero-div (2 ^ i))

    clear : (t : ℕ) → t < 1024 → held_in ms 0 t ≡ 0
    clear t l = sum-zero (bit ms) (t * 2 ^ 0) (2 ^ 0) (λ i a b. ap (λ w. bit_at w (i % 64)) (get_or-replicate {A = ℕ} 16 (i / 64) 0 0 (omega arith)) ∙ no-bit (i % 64))

module _ (z : ℕ) (ls : List ℕ) (j : ℕ) where
  -- an absent local is apart from all, and marks nothing
  pub absent-apart : (local_at ls j).present ≡ false → apart_before z ls j ≡ true
  unfolding apart_before apart
  absent-apart h = all-make j (λ i. apart z (local_at ls j) (local_at ls i)) (λ i l. rw h)

  pub absent-marks : (ms : List ℕ) → (local_at ls j).present ≡ false → Marks z ls j ms → Marks z ls (j + 1) ms
  unfolding holds_tree
  absent-marks ms h m = record { len = m.len; unmarked = λ t l. m.unmarked t l ∙ sym (all-next j _ ∙ both-unit _ _ (rw h)) }

  -- a present local is apart from those before it exactly if its tree is not marked; then it is marked
  pub present-apart : (ms : List ℕ) → (local_at ls j).present ≡ true → tree_on z (local_at ls j) < 1024 → Marks z ls j ms
      → apart_before z ls j ≡ eqb (held_in ms 0 (tree_on z (local_at ls j))) 0
  unfolding apart_before apart holds_tree
  present-apart ms h l m =
      all_same j _ _ (λ i k. rw h (go (local_at ls i).present (eqb (tree_on z (local_at ls j)) (tree_on z (local_at ls i))))) ∙ sym (m.unmarked (tree_on z (local_at ls j)) l)
    where
      go : (p q : Bool) → pick p (not q) true ≡ not (both p q)
      go true q = refl
      go false q = refl

  pub present-marks : (ms : List ℕ) → (local_at ls j).present ≡ true → tree_on z (local_at ls j) < 1024 → Marks z ls j ms
      → Marks z ls (j + 1) (mark true ms 0 (tree_on z (local_at ls j)))
  unfolding held_in holds_tree
  present-marks ms h l m = record { len = k.len ∙ m.len; unmarked = λ t b. by t b (eqb t u) refl }
    where
      u : ℕ
      u = tree_on z (local_at ls j)

      k : Marked true ms (mark true ms 0 u) (u * 2 ^ 0) (2 ^ 0)
      k = marked true ms 0 u (mark-block ms u m.len l)

      kept : (t : ℕ) → (t ≡ u → ⊥) → held_in (mark true ms 0 u) 0 t ≡ held_in ms 0 t
      kept t ne = by_side t u ne
          (λ b. count-below true ms (mark true ms 0 u) (u * 2 ^ 0) (2 ^ 0) k (t * 2 ^ 0) (2 ^ 0) (omega arith))
          (λ b. count-above true ms (mark true ms 0 u) (u * 2 ^ 0) (2 ^ 0) k (t * 2 ^ 0) (2 ^ 0) (omega arith))

      here : held_in (mark true ms 0 u) 0 u ≡ 1
      here = count_held ms (mark true ms 0 u) (u * 2 ^ 0) (2 ^ 0) k

      by : (t : ℕ) → t < 1024 → (b : Bool) → eqb t u ≡ b
          → eqb (held_in (mark true ms 0 u) 0 t) 0 ≡ all_below (j + 1) (λ i. not (holds_tree z (local_at ls i) t))
      by t b true e =
          let q : t ≡ u = eqb-true t u e in
          let f : eqb (held_in (mark true ms 0 u) 0 t) 0 ≡ false = rw q (ap (λ x. eqb x 0) here) in
          f ∙ sym (all-next j (λ i. not (holds_tree z (local_at ls i) t)) ∙ both_false (all_below j (λ i. not (holds_tree z (local_at ls i) t))) (not (holds_tree z (local_at ls j) t)) (rw (h, e)))
      by t b false e =
          ap (λ x. eqb x 0) (kept t (eqb-false t u e)) ∙ m.unmarked t b
          ∙ sym (all-next j (λ i. not (holds_tree z (local_at ls i) t)) ∙ both-unit (all_below j (λ i. not (holds_tree z (local_at ls i) t))) (not (holds_tree z (local_at ls j) t)) (rw (h, e)))

  -- a turn of the loop: the local is absent
  pub absent-turn : (ms ms' : List ℕ) (l : Local) → l ≡ local_at ls j → l.present ≡ false → ms' ≡ ms → Marks z ls j ms → all_below j (apart_before z ls) ≡ true
      → (all_below (j + 1) (apart_before z ls) ≡ true) × Marks z ls (j + 1) ms'
  absent-turn ms ms' l e h q m a =
      let p : (local_at ls j).present ≡ false = rw (← e) h in
      (all_more j (apart_before z ls) a (absent-apart p), rw q (absent-marks ms p m))

  -- it is present, and its tree unmarked
  pub present-turn : (ms ms' : List ℕ) (l : Local) → l ≡ local_at ls j → l.present ≡ true → tree_on z (local_at ls j) < 1024 → eqb (held_in ms 0 (tree_on z l)) 0 ≡ true
      → ms' ≡ mark true ms 0 (tree_on z l) → Marks z ls j ms → all_below j (apart_before z ls) ≡ true
      → (all_below (j + 1) (apart_before z ls) ≡ true) × Marks z ls (j + 1) ms'
  present-turn ms ms' l e h i f q m a =
      let p : (local_at ls j).present ≡ true = rw (← e) h in
      let g : eqb (held_in ms 0 (tree_on z (local_at ls j))) 0 ≡ true = rw (← e) f in
      let r : ms' ≡ mark true ms 0 (tree_on z (local_at ls j)) = rw (← e) q in
      (all_more j (apart_before z ls) a (present-apart ms p i m ∙ g), rw r (present-marks ms p i m))

  -- its tree is marked
  pub marked-fails : (ms : List ℕ) (l : Local) → l ≡ local_at ls j → l.present ≡ true → tree_on z (local_at ls j) < 1024 → eqb (held_in ms 0 (tree_on z l)) 0 ≡ false
      → Marks z ls j ms → apart_before z ls j ≡ false
  marked-fails ms l e h i f m =
      let p : (local_at ls j).present ≡ true = rw (← e) h in
      let g : eqb (held_in ms 0 (tree_on z (local_at ls j))) 0 ≡ false = rw (← e) f in
      present-apart ms p i m ∙ g
