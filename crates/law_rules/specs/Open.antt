-- The first word from a row on that has a clear bit: a search for a small block upward from the row may begin there. Assumes nothing.
use Rattle.std.specs.Prelude.{◌≡◌, refl, Bool, true, false, not, List, eqb, leb, get_or, Option, Some, None}
use Rattle.std.proofs.Math.Path.{sym, ap}
use Rattle.std.proofs.Common.{◌∙◌, mul_assoc, div-lt_iff_lt-mul, pow-add, ne_eqb, eq-eqb, eqb-true}
use Rattle.std.proofs.Math.Logic.{⊎_elim}
use Prim.Native.Nat.{ℕ, suc, ◌+◌, ◌-◌, ◌*◌, ◌/◌, ◌%◌, ◌^◌, ◌<◌, ◌≤◌}
use Rattle.std.proofs.Math.Nat.{mul-le-mul_right, add-mul, mod-lt}
use native.Mathlib.Omega.{arith}
use Rattle.std.proofs.Math.Pow.{pow_pos, split, shl-shr, shr_mono}
use Rattle.std.proofs.lemmas.Bool.{lt-leb, eqb-false, not-false}
use Rattle.rules.specs.Base.{first_in}
use Rattle.rules.specs.Words.{tree_rows}
use Rattle.rules.specs.Lower.{bit, held, held_in, hit}
use Rattle.law_rules.specs.All.{both_false}
use Rattle.law_rules.specs.Cases.{below_or}
use Rattle.law_rules.specs.Power.{inside, row_block, row_first}
use Rattle.law_rules.specs.Sum.{sum-all, one_at}
use Rattle.law_rules.specs.Held.{bit_le, held_whole}
use Rattle.law_rules.specs.Ones.{ones-every}
use Rattle.law_rules.specs.Run.{held-part-of}
use Rattle.law_rules.specs.First.{first-none, first-at, first-skip, first-sound, first-least, first-empty}
use Rattle.law_rules.specs.Seek.{seek_in, seek-all}
use Rattle.law_rules.specs.WordSeek.{found_or}

-- the word q has a clear bit
unfoldable pub has_clear : List ℕ → ℕ → Bool
has_clear ws q = not (eqb (held_in ws 6 q) 64)

-- the first of the n words from a that has a clear bit; a + n where none has
unfoldable pub open_from : List ℕ → ℕ → ℕ → ℕ
open_from ws a n = found_or (a + n) (first_in (has_clear ws) a n)

-- the words of a run that is wholly held
run-full : (ws : List ℕ) (a k : ℕ) → held ws (a * 64) (k * 64) ≡ k * 64 → (q : ℕ) → a ≤ q → q < a + k → has_clear ws q ≡ false
unfolding has_clear held_in
run-full ws a k e q l m = let d : held ws (q * 64) 64 ≡ 64 = held-part-of ws (a * 64) (k * 64) (q * 64) 64 e (omega arith) (omega arith) in simp (eq-eqb (held ws (q * 64) 64) 64 d)

-- the loop's end: a word with a clear bit, or none
pub open-here : (ws : List ℕ) (a n k : ℕ) → k < n → held ws (a * 64) (k * 64) ≡ k * 64 → get_or ws (a + k) 0 < 2 ^ 64 → (get_or ws (a + k) 0 ≡ 2 ^ 64 - 1 → ⊥) → a + k ≡ open_from ws a n
unfolding open_from has_clear held_in
open-here ws a n k l e h ne =
    let d : eqb (held ws ((a + k) * 64) 64) 64 ≡ false = ne_eqb (held ws ((a + k) * 64) 64) 64 (λ z.
    let q : get_or ws (a + k) 0 + 1 ≡ 2 ^ 64 = ones-every 64 _ h (sym (held_whole ws (a + k) h) ∙ z) in ne (omega arith)) in
    let f : first_in (has_clear ws) a n ≡ Some (a + k) = first-at (has_clear ws) a n (a + k) (omega arith) (omega arith) (run-full ws a k e) (simp d) in
    sym (ap (found_or (a + n)) f)

pub open-end : (ws : List ℕ) (a n : ℕ) → held ws (a * 64) (n * 64) ≡ n * 64 → a + n ≡ open_from ws a n
unfolding open_from
open-end ws a n e =
    let f : first_in (has_clear ws) a n ≡ None = first-none (has_clear ws) a n (run-full ws a n e) in
    sym (ap (found_or (a + n)) f)

-- the words before it are wholly held
pub record Opened (ws : List ℕ) (a n q : ℕ) : Type 0 where
  pub low : a ≤ q
  pub high : q ≤ a + n
  pub full : (w : ℕ) → a ≤ w → w < q → held_in ws 6 w ≡ 64

pub opened : (ws : List ℕ) (a n q : ℕ) → q ≡ open_from ws a n → Opened ws a n q
unfolding open_from has_clear
opened ws a n q e = go (first_in (has_clear ws) a n) refl e
  where
    full_at : (w : ℕ) → has_clear ws w ≡ false → held_in ws 6 w ≡ 64
    full_at w f = eqb-true (held_in ws 6 w) 64 (not-false (eqb (held_in ws 6 w) 64) f)

    go : (f : Option ℕ) → first_in (has_clear ws) a n ≡ f → q ≡ found_or (a + n) f → Opened ws a n q
    go (Some j) d r =
        let s = first-sound (has_clear ws) a n j d in
        record { low = omega (arith, s.low); high = omega (arith, s.high); full = λ w x y. full_at w (first-least (has_clear ws) a n j d w x (omega arith)) }
    go None d r = record { low = omega arith; high = omega arith; full = λ w x y. full_at w (first-empty (has_clear ws) a n d w x (omega arith)) }

-- where none has one, the run is wholly held
whole : (ws : List ℕ) (a n : ℕ) → Opened ws a n (a + n) → held ws (a * 64) (n * 64) ≡ n * 64
unfolding held held_in
whole ws a n p = sum-all (bit ws) (a * 64) (n * 64) (λ g r s. one_at (bit ws) (g / 64 * 64) 64 (bit_le ws) (p.full (g / 64) (omega arith) (omega arith)) g (omega arith) (omega arith))

-- and the other way round
pub open_full : (ws : List ℕ) (a n q : ℕ) → q ≡ open_from ws a n → eqb q (a + n) ≡ eqb (held ws (a * 64) (n * 64)) (n * 64)
open_full ws a n q e = go (eqb (held ws (a * 64) (n * 64)) (n * 64)) refl
  where
    go : (b : Bool) → eqb (held ws (a * 64) (n * 64)) (n * 64) ≡ b → eqb q (a + n) ≡ b
    go true f = eq-eqb q (a + n) (e ∙ sym (open-end ws a n (eqb-true _ _ f)))
    go false f = ne_eqb q (a + n) (λ z. eqb-false _ _ f (whole ws a n (opened ws a n (a + n) (sym z ∙ e))))

-- the blocks of a small order o in the words before q: none is a hit of the search from the row
module _ (ws : List ℕ) (o row n q : ℕ) (h : o < 6) (p : Opened ws row n q) where
  no_hit : (i : ℕ) → i < q * 2 ^ (6 - o) → hit ws o (row * 64 / 2 ^ o) i ≡ false
  unfolding held_in
  no_hit i l = ⊎_elim
      (λ b. simp (lt-leb (row * 64 / 2 ^ o) i b))
      (λ b.
      let k : ℕ = 6 - o in
      let w : ℕ = i / 2 ^ k in
      let c : row * 2 ^ k ≤ i = omega (arith, row_block o row (omega arith)) in
      let d : row * 2 ^ k / 2 ^ k ≤ i / 2 ^ k = shr_mono k c in
      let d' : row ≤ i / 2 ^ k = omega (arith, shl-shr row k) in
      let f : i / 2 ^ k < q = (div-lt_iff_lt-mul {k = 2 ^ k} {x = i} {y = q} (pow_pos k)).1 l in
      let s : i / 2 ^ k * 2 ^ k + i % 2 ^ k ≡ i = split i k in
      let m : i % 2 ^ k < 2 ^ k = mod-lt i (pow_pos k) in
      let t = inside 6 o (i / 2 ^ k) i (omega arith) (omega arith) (omega arith) in
      let u : held_in ws 6 (i / 2 ^ k) ≡ 64 = p.full (i / 2 ^ k) d' f in
      let v : held_in ws o i ≡ 2 ^ o = held-part-of ws (i / 2 ^ k * 64) 64 (i * 2 ^ o) (2 ^ o) u t.low t.high in
      let y : 0 < 2 ^ o = pow_pos o in
      both_false (leb (row * 64 / 2 ^ o) i) (eqb (held_in ws o i) 0) (ne_eqb (held_in ws o i) 0 (λ z. omega arith)))
      (below_or i (row * 64 / 2 ^ o))

  -- upward from the row in the tree of order z
  module _ (z t : ℕ) (least : 6 ≤ z) where
    rows : t * 2 ^ (z - 6) * 2 ^ (6 - o) ≡ t * 2 ^ (z - o)
    rows =
        let e : (z - 6) + (6 - o) ≡ z - o = omega arith in
        let a : 2 ^ (z - o) ≡ 2 ^ (z - 6) * 2 ^ (6 - o) = ap (λ (x : ℕ). 2 ^ x) (sym e) ∙ pow-add 2 (z - 6) (6 - o) in
        mul_assoc t (2 ^ (z - 6)) (2 ^ (6 - o)) ∙ ap (λ (x : ℕ). t * x) (sym a)

    one : 2 ^ (z - 6) * 2 ^ (6 - o) ≡ 2 ^ (z - o)
    one = let e : (z - 6) + (6 - o) ≡ z - o = omega arith in sym (pow-add 2 (z - 6) (6 - o)) ∙ ap (λ (x : ℕ). 2 ^ x) e

    -- no word of the tree from the row on has a clear bit
    pub open_none : q ≡ t * tree_rows z + tree_rows z → None ≡ seek_in ws z o t (row * 64 / 2 ^ o)
    unfolding seek_in
    open_none e =
        let a : (t * 2 ^ (z - 6) + 2 ^ (z - 6)) * 2 ^ (6 - o) ≡ t * 2 ^ (z - 6) * 2 ^ (6 - o) + 2 ^ (z - 6) * 2 ^ (6 - o) = add-mul (t * 2 ^ (z - 6)) (2 ^ (z - 6)) (2 ^ (6 - o)) in
        let b : q * 2 ^ (6 - o) ≡ (t * 2 ^ (z - 6) + 2 ^ (z - 6)) * 2 ^ (6 - o) = ap (λ (x : ℕ). x * 2 ^ (6 - o)) e in
        sym (first-none (hit ws o (row * 64 / 2 ^ o)) (t * 2 ^ (z - o)) (2 ^ (z - o)) (λ i l m. no_hit i (omega (arith, rows, one))))

    -- the word has a free block
    pub open-found : (i : ℕ) (x : Option ℕ) → t * tree_rows z ≤ row → q < t * tree_rows z + tree_rows z → x ≡ seek_in ws 6 o q 0 → x ≡ Some i → Some i ≡ seek_in ws z o t (row * 64 / 2 ^ o)
    unfolding seek_in
    open-found i x a b e f =
        let c : seek_in ws 6 o q (row * 64 / 2 ^ o) ≡ Some i = seek-all ws 6 o q (row * 64 / 2 ^ o) (row_first o row q (omega arith) p.low) ∙ sym e ∙ f in
        let m : suc q * 2 ^ (6 - o) ≤ (t * 2 ^ (z - 6) + 2 ^ (z - 6)) * 2 ^ (6 - o) = mul-le-mul_right (2 ^ (6 - o)) b in
        let m' : (t * 2 ^ (z - 6) + 2 ^ (z - 6)) * 2 ^ (6 - o) ≡ t * 2 ^ (z - 6) * 2 ^ (6 - o) + 2 ^ (z - 6) * 2 ^ (6 - o) = add-mul (t * 2 ^ (z - 6)) (2 ^ (z - 6)) (2 ^ (6 - o)) in
        let s : suc q ≡ q + 1 = omega arith in
        let d : suc q * 2 ^ (6 - o) ≡ q * 2 ^ (6 - o) + 1 * 2 ^ (6 - o) = ap (λ (y : ℕ). y * 2 ^ (6 - o)) s ∙ add-mul q 1 (2 ^ (6 - o)) in
        let r : t * 2 ^ (z - 6) ≤ q = omega (arith, p.low) in
        let u : t * 2 ^ (z - 6) * 2 ^ (6 - o) ≤ q * 2 ^ (6 - o) = mul-le-mul_right (2 ^ (6 - o)) r in
        sym (first-skip (hit ws o (row * 64 / 2 ^ o)) (t * 2 ^ (z - o)) (2 ^ (z - o)) (q * 2 ^ (6 - o)) (2 ^ (6 - o)) i
        (omega (arith, rows)) (omega (arith, rows, one)) (λ j x y. no_hit j y) c)
