-- What the lower's get finds and what its put gives back, and one law of each for any claim on the answer. Assumes nothing.
use Rattle.std.proofs.Math.Path.{◌≡◌, refl, ap, subst}
use Rattle.std.proofs.Common.{sym, ◌∙◌, mul_assoc, Option, Some, None}
use Rattle.std.specs.Prelude.{Bool, List, leb, ltb}
use Rattle.std.proofs.Math.Bool.{true, false}
use Prim.Native.Nat.{ℕ, suc, ◌+◌, ◌-◌, ◌*◌, ◌/◌, ◌^◌, ◌<◌, ◌≤◌}
use Rattle.std.proofs.Math.Nat.{mul-le-mul_right, add-mul, div-mul-le_self}
use native.Mathlib.Omega.{arith}
use Rattle.std.proofs.Math.Dec.{eqb}
use Rattle.std.proofs.Math.ListN.{length}
use Rattle.std.proofs.Math.Pow.{pow_mono}
use borrow.Author.Tests.{leb-true, ltb-true, eqb-true, eqb-false}
use Rattle.rules.specs.Base.{pick, Out, out}
use Rattle.rules.specs.Words.{tree_frames, tree_rows}
use Rattle.rules.specs.Lower.{held_in, mark, search_in, has_tree, lower_find, lower_take, lower_get, lower_put}
use Rattle.law_rules.specs.All.{both_left, both_right}
use Rattle.law_rules.specs.Power.{Inside, in_tree, tree-words}
use Rattle.law_rules.specs.Block.{Block, block_of}
use Rattle.law_rules.specs.Search.{search-found}

-- the tree of order z that the bitmap has
module _ (z : ℕ) (ws : List ℕ) (t : ℕ) (least : 6 ≤ z) (most : z ≤ 18) (e : has_tree z ws t ≡ true) where
  pub has-small : length ws ≤ 4194304
  unfolding has_tree
  has-small =
      let a : length ws ≤ 1024 * 2 ^ (z - 6) = leb-true _ _ (both_left (leb (length ws) (1024 * 2 ^ (z - 6))) (ltb t (length ws / 2 ^ (z - 6))) e) in
      let p : 2 ^ (z - 6) ≤ 2 ^ 12 = pow_mono {i = z - 6} {j = 12} (omega arith) in
      omega arith

  pub has_words : t * tree_rows z + tree_rows z ≤ length ws
  unfolding has_tree
  has_words =
      let a : t < length ws / 2 ^ (z - 6) = ltb-true _ _ (both_right (leb (length ws) (1024 * 2 ^ (z - 6))) (ltb t (length ws / 2 ^ (z - 6))) e) in
      let b : suc t * 2 ^ (z - 6) ≤ length ws / 2 ^ (z - 6) * 2 ^ (z - 6) = mul-le-mul_right (2 ^ (z - 6)) a in
      let c : length ws / 2 ^ (z - 6) * 2 ^ (z - 6) ≤ length ws = div-mul-le_self (length ws) (2 ^ (z - 6)) in
      let s : suc t ≡ t + 1 = omega arith in
      let d : suc t * 2 ^ (z - 6) ≡ t * 2 ^ (z - 6) + 1 * 2 ^ (z - 6) = ap (λ (x : ℕ). x * 2 ^ (z - 6)) s ∙ add-mul t 1 (2 ^ (z - 6)) in
      omega arith

  pub has_block : Block ws z t
  has_block =
      let p : 2 ^ z ≡ 2 ^ (z - 6) * 64 = tree-words z least in
      let q : t * 2 ^ z ≡ t * 2 ^ (z - 6) * 64 = ap (λ (x : ℕ). t * x) p ∙ sym (mul_assoc t (2 ^ (z - 6)) 64) in
      record { order = most; inside = omega (arith, has_words); small = has-small }

-- the tree in which a get seeks: that of the named frame, or of the hint's row
abbrev pub sought_tree : ℕ → ℕ → Option ℕ → ℕ
sought_tree z row None = row / tree_rows z
sought_tree z row (Some f) = f / tree_frames z

-- the block that a name asks for
abbrev pub IsNamed : Option ℕ → ℕ → ℕ → Type 0
IsNamed None o j = Unit {0}
IsNamed (Some f) o j = j ≡ f / 2 ^ o

-- the block j that a get finds: wholly free, in the bitmap, in the tree that is sought, and the named one
pub record Named (z : ℕ) (ws : List ℕ) (row o : ℕ) (name : Option ℕ) (j : ℕ) : Type 0 where
  pub block : Block ws o j
  pub free : held_in ws o j ≡ 0
  pub has : has_tree z ws (sought_tree z row name) ≡ true
  pub inside : Inside z o (sought_tree z row name) j
  pub named : IsNamed name o j

-- the block that a put gives back: wholly held, in the bitmap
pub record HeldBlock (z : ℕ) (ws : List ℕ) (o f : ℕ) : Type 0 where
  pub block : Block ws o (f / 2 ^ o)
  pub held : held_in ws o (f / 2 ^ o) ≡ 2 ^ o
  pub has : has_tree z ws (f / tree_frames z) ≡ true
  pub inside : Inside z o (f / tree_frames z) (f / 2 ^ o)

module _ (z : ℕ) (ws : List ℕ) (o : ℕ) (least : 6 ≤ z) (most : z ≤ 18) (small : o ≤ z) where
  -- the block of a frame whose tree the bitmap has
  pub frame-block : (f : ℕ) → has_tree z ws (f / tree_frames z) ≡ true → Block ws o (f / 2 ^ o)
  frame-block f e = block_of ws z o f small (has_block z ws (f / tree_frames z) least most e)

  -- what is found
  pub find-is : (row : ℕ) (name : Option ℕ) (j : ℕ) → lower_find z ws row o name ≡ Some j → Named z ws row o name j
  unfolding lower_find
  find-is row None j e = go (has_tree z ws (row / tree_rows z)) refl e
    where
      go : (t : Bool) → has_tree z ws (row / tree_rows z) ≡ t → pick t (search_in z ws (row / tree_rows z) o row) None ≡ Some j → Named z ws row o None j
      go true q p =
          let s = search-found z ws (row / tree_rows z) o row j small p in
          let b : Block ws z (row / tree_rows z) = has_block z ws (row / tree_rows z) least most q in
          let i : row / tree_rows z * 2 ^ z + 2 ^ z ≤ length ws * 64 = b.inside in
          record { block = record { order = omega arith; inside = omega (arith, s.inside.high); small = b.small }; free = s.free; has = q; inside = s.inside; named = tt }
      go false q p = absurd (let c : ◌≡◌ {A = ℕ} 0 1 = cc in omega arith)
  find-is row (Some f) j e = go (has_tree z ws (f / tree_frames z)) refl (eqb (held_in ws o (f / 2 ^ o)) 0) refl e
    where
      go : (t : Bool) → has_tree z ws (f / tree_frames z) ≡ t → (u : Bool) → eqb (held_in ws o (f / 2 ^ o)) 0 ≡ u
          → pick t (pick u (Some (f / 2 ^ o)) None) None ≡ Some j → Named z ws row o (Some f) j
      go true q true r p =
          let k : f / 2 ^ o ≡ j = cc in
          let b : Named z ws row o (Some f) (f / 2 ^ o) =
          record { block = frame-block f q; free = eqb-true _ _ r; has = q; inside = in_tree z o f small; named = refl } in
          subst (λ (x : ℕ). Named z ws row o (Some f) x) k b
      go true q false r p = absurd (let c : ◌≡◌ {A = ℕ} 0 1 = cc in omega arith)
      go false q u r p = absurd (let c : ◌≡◌ {A = ℕ} 0 1 = cc in omega arith)

  -- a claim on the answer of a get: of the found block, now held, and of nothing
  pub get-ind : (Q : Out (Option ℕ) (List ℕ) → Type 0) (row : ℕ) (name : Option ℕ)
      → ((j : ℕ) → Named z ws row o name j → Q (out (Some (j * 2 ^ o)) (mark true ws o j)))
      → (lower_find z ws row o name ≡ None → Q (out None ws))
      → Q (lower_get z ws row o name)
  unfolding lower_get lower_take
  get-ind Q row name found nothing = go (lower_find z ws row o name) refl
    where
      go : (x : Option ℕ) → lower_find z ws row o name ≡ x → Q (lower_take ws o (lower_find z ws row o name))
      go (Some j) e = rw e (found j (find-is row name j e))
      go None e = rw e (nothing e)

  -- a claim on the answer of a put: of the block, now free, and of a refusal
  pub put-ind : (Q : Out Bool (List ℕ) → Type 0) (f : ℕ)
      → (HeldBlock z ws o f → Q (out true (mark false ws o (f / 2 ^ o))))
      → ((has_tree z ws (f / tree_frames z) ≡ true → held_in ws o (f / 2 ^ o) ≡ 2 ^ o → ⊥) → Q (out false ws))
      → Q (lower_put z ws o f)
  unfolding lower_put
  put-ind Q f given refused = go (has_tree z ws (f / tree_frames z)) refl (eqb (held_in ws o (f / 2 ^ o)) (2 ^ o)) refl
    where
      go : (t : Bool) → has_tree z ws (f / tree_frames z) ≡ t → (u : Bool) → eqb (held_in ws o (f / 2 ^ o)) (2 ^ o) ≡ u
          → Q (pick t (pick u (out true (mark false ws o (f / 2 ^ o))) (out false ws)) (out false ws))
      go true q true r = given (record { block = frame-block f q; held = eqb-true _ _ r; has = q; inside = in_tree z o f small })
      go true q false r = refused (λ a. eqb-false _ _ r)
      go false q u r = refused (λ a b. let c : ◌≡◌ {A = ℕ} 0 1 = cc in omega arith)
