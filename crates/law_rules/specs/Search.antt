-- What the search of a tree finds: a wholly free block of the tree; and nothing only where there is none. Assumes nothing.
use Rattle.std.proofs.Math.Path.{◌≡◌, refl, sym}
use Rattle.std.proofs.Common.{ap, ◌∙◌, arith, Option, Some, None}
use Rattle.std.specs.Prelude.{Bool, List, eqb}
use Rattle.std.proofs.Math.Bool.{true, false}
use Prim.Native.Nat.{ℕ, zero, suc, ◌+◌, ◌-◌, ◌*◌, ◌/◌, ◌^◌, ◌<◌, ◌≤◌}
use Rattle.std.proofs.Math.Dec.{leb}
use borrow.Author.Tests.{eqb-true, eqb-false, lt-leb, le-leb}
use Rattle.rules.specs.Base.{both, sum, first_in}
use Rattle.rules.specs.Words.{tree_rows}
use Rattle.rules.specs.Lower.{bit, held, held_in, clear, hit, search_in}
use Rattle.law_rules.specs.All.{both_right}
use Rattle.law_rules.specs.Power.{Inside, inside, among, row-tree, tree-first}
use Rattle.law_rules.specs.Block.{Block, block_of}
use Rattle.law_rules.specs.Sum.{sum_one, sum-all}
use Rattle.law_rules.specs.Held.{bit_le}
use Rattle.law_rules.specs.First.{first-at, first-sound, first-empty}
use Rattle.law_rules.specs.Seek.{seek_in, seek_is, seek-all}
use Rattle.law_rules.specs.Clear.{clear-held}

-- the block j of order o is a wholly free one of the tree t
pub record FreeIn (z : ℕ) (ws : List ℕ) (t o j : ℕ) : Type 0 where
  pub inside : Inside z o t j
  pub free : held_in ws o j ≡ 0

module _ (z : ℕ) (ws : List ℕ) (tree o row : ℕ) where
  pub search-found : (j : ℕ) → o ≤ z → search_in z ws tree o row ≡ Some j → FreeIn z ws tree o j
  unfolding search_in
  search-found j h e = pass (first_in (hit ws o (row * 64 / 2 ^ o)) (tree * 2 ^ (z - o)) (2 ^ (z - o))) refl
    where
      named : (from : ℕ) → first_in (hit ws o from) (tree * 2 ^ (z - o)) (2 ^ (z - o)) ≡ Some j → FreeIn z ws tree o j
      named from q =
          let s = first-sound (hit ws o from) (tree * 2 ^ (z - o)) (2 ^ (z - o)) j q in
          record { inside = inside z o tree j h s.low s.high; free = eqb-true (held_in ws o j) 0 (both_right (leb from j) (eqb (held_in ws o j) 0) s.passed) }

      pass : (x : Option ℕ) → first_in (hit ws o (row * 64 / 2 ^ o)) (tree * 2 ^ (z - o)) (2 ^ (z - o)) ≡ x → FreeIn z ws tree o j
      pass (Some k) q = named (row * 64 / 2 ^ o) (q ∙ (simp q at e))
      pass None q = named 0 (simp q at e)

  pub search-none : search_in z ws tree o row ≡ None → (j : ℕ) → tree * 2 ^ (z - o) ≤ j → j < tree * 2 ^ (z - o) + 2 ^ (z - o) → held_in ws o j ≡ 0 → ⊥
  unfolding search_in
  search-none e j l m = pass (first_in (hit ws o (row * 64 / 2 ^ o)) (tree * 2 ^ (z - o)) (2 ^ (z - o))) refl
    where
      pass : (x : Option ℕ) → first_in (hit ws o (row * 64 / 2 ^ o)) (tree * 2 ^ (z - o)) (2 ^ (z - o)) ≡ x → held_in ws o j ≡ 0 → ⊥
      pass (Some k) q = absurd (let r : Some k ≡ None = simp q at e in let c : ◌≡◌ {A = ℕ} 0 1 = cc in omega arith)
      pass None q =
          let k : leb 0 j ≡ true = le-leb 0 j (omega arith) in
          let r : both (leb 0 j) (eqb (held_in ws o j) 0) ≡ false = first-empty (hit ws o 0) (tree * 2 ^ (z - o)) (2 ^ (z - o)) (simp q at e) j l m in
          eqb-false (held_in ws o j) 0 (simp k at r)

-- a search for a single frame finds nothing only in a tree without clear bits
pub search-clear : (z : ℕ) (ws : List ℕ) (tree row : ℕ) → 6 ≤ z → search_in z ws tree 0 row ≡ None → clear z ws tree ≡ 0
unfolding held held_in
search-clear z ws tree row h e =
    let a : held ws (tree * 2 ^ z) (2 ^ z) ≡ 2 ^ z = sum-all (bit ws) (tree * 2 ^ z) (2 ^ z) (λ i l m.
    let d : z - 0 ≡ z = omega arith in
    let n : held_in ws 0 i ≡ 0 → ⊥ = search-none z ws tree 0 row e i (rw d l) (rw d m) in
    let o : i * 1 ≡ i = omega arith in
    let b : held_in ws 0 i ≡ bit ws i = ap (λ (x : ℕ). sum (bit ws) x 1) o ∙ sum_one (bit ws) i in
    let c : bit ws i ≤ 1 = bit_le ws i in
    one (bit ws i) c (λ q. n (b ∙ q))) in
    omega (arith, clear-held z ws tree h)
  where
    one : (x : ℕ) → x ≤ 1 → (x ≡ 0 → ⊥) → x ≡ 1
    one zero l n = absurd (n refl)
    one (suc zero) l n = refl
    one (suc (suc x)) l n = absurd (omega arith)

-- the block that holds the hint row's first frame, if it is free, is the answer
module _ (z : ℕ) (ws : List ℕ) (row o : ℕ) (least : 6 ≤ z) (h : o ≤ z) where
  pub hint-free : (r : Bool) → r ≡ eqb (held_in ws o (row * 64 / 2 ^ o)) 0 → r ≡ true → Some (row * 64 / 2 ^ o) ≡ search_in z ws (row / tree_rows z) o row
  unfolding search_in
  hint-free r e q =
      let a = among z o (row * 64) h in
      let l : row / tree_rows z * 2 ^ (z - o) ≤ row * 64 / 2 ^ o = rw (row-tree z row least) at a.low in
      let m : row * 64 / 2 ^ o < row / tree_rows z * 2 ^ (z - o) + 2 ^ (z - o) = rw (row-tree z row least) at a.high in
      let k : leb (row * 64 / 2 ^ o) (row * 64 / 2 ^ o) ≡ true = le-leb (row * 64 / 2 ^ o) (row * 64 / 2 ^ o) (omega arith) in
      let f : first_in (hit ws o (row * 64 / 2 ^ o)) (row / tree_rows z * 2 ^ (z - o)) (2 ^ (z - o)) ≡ Some (row * 64 / 2 ^ o) =
      first-at (hit ws o (row * 64 / 2 ^ o)) (row / tree_rows z * 2 ^ (z - o)) (2 ^ (z - o)) (row * 64 / 2 ^ o) l m
      (λ i x y. simp (lt-leb (row * 64 / 2 ^ o) i y))
      (simp (k, sym e ∙ q)) in
      sym (simp f)

  -- the block is one of the bitmap, where its tree is
  pub hint-block : Block ws z (row / tree_rows z) → Block ws o (row * 64 / 2 ^ o)
  hint-block b = block_of ws z o (row * 64) h (rw (row-tree z row least) b)

  -- upward from the hint, then from the tree's first row
  module _ (x : Option ℕ) (l : x ≡ seek_in ws z o (row / tree_rows z) (row * 64 / 2 ^ o)) where
    pub seek-hint : (i : ℕ) → x ≡ Some i → Some i ≡ search_in z ws (row / tree_rows z) o row
    unfolding search_in seek_in
    seek-hint i e = sym (simp (sym l ∙ e))

    pub seek-round : (y : Option ℕ) → x ≡ None → y ≡ seek_in ws z o (row / tree_rows z) (row / tree_rows z * tree_rows z * 64 / 2 ^ o) → y ≡ search_in z ws (row / tree_rows z) o row
    unfolding search_in
    seek-round y e r =
        let t : ℕ = row / tree_rows z in
        let a : row / tree_rows z * tree_rows z * 64 / 2 ^ o ≤ row / tree_rows z * 2 ^ (z - o) = tree-first z o (row / tree_rows z) least h in
        let b : seek_in ws z o (row / tree_rows z) (row / tree_rows z * tree_rows z * 64 / 2 ^ o) ≡ seek_in ws z o (row / tree_rows z) 0 = seek-all ws z o (row / tree_rows z) _ a in
        let c : first_in (hit ws o (row * 64 / 2 ^ o)) (row / tree_rows z * 2 ^ (z - o)) (2 ^ (z - o)) ≡ None = is-seek (row * 64 / 2 ^ o) ∙ sym l ∙ e in
        r ∙ b ∙ sym (is-seek 0) ∙ sym (simp c)
      where
        is-seek : (from : ℕ) → first_in (hit ws o from) (row / tree_rows z * 2 ^ (z - o)) (2 ^ (z - o)) ≡ seek_in ws z o (row / tree_rows z) from
        is-seek from = seek_is ws z o (row / tree_rows z) from
