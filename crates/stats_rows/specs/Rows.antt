-- The eight rows by value, as a list, and against the definition. Assumes nothing.
use Rattle.std.specs.Prelude.{◌≡◌, refl, Bool, true, false, List, [], ◌∷◌, ℕ, zero, suc, ◌+◌, ◌-◌, ◌*◌, ◌^◌, ◌<◌, ◌≤◌, eqb, length, get_or, set, take}
use Rattle.std.proofs.Common.{◌∙◌, sym, arith, eqb-true, length-set, get_or-set_same, get_or-set_other}
use Rattle.std.proofs.lemmas.Bool.{eqb-false}
use Rattle.std.proofs.lemmas.List.{ext_get_or, get_or-take, length-take-le, take_all}
use Rattle.rules.specs.Base.{sum}
use Rattle.rules.specs.Words.{Config, trees_of, tree_frames, local_count, local_at}
use Rattle.rules_calls.specs.declared.Tally.{Tally}
use Rattle.rules_calls.specs.Statistics.{local_free, entry_free, entry_alloc, in_use, over_class, reserved_free, tally, tallies}
use Rattle.stats_by_class.specs.declared.Entries.{Entries}
use Rattle.stats_by_class.specs.Sums.{free_at, alloc_at, tree_at, held_on, Summed}

-- the free of the n locals from a slot on
unfoldable pub free_from : List ℕ → ℕ → ℕ → ℕ
free_from ls first n = sum (λ i. (local_at ls (first + i)).free) 0 n

-- the row of class k, of sums by class
unfoldable pub row_of : ℕ → Entries → ℕ → List ℕ → ℕ → Tally
row_of z e more held k = record { free = get_or e.free k 0 + more; alloc = get_or e.alloc k 0; used = tree_frames z * get_or e.trees k 0 - get_or e.free k 0 - get_or held k 0 }

-- it is the definition's
pub row_is : (c : Config) (ts ls : List ℕ) (e : Entries) (held : List ℕ) (k : ℕ) → k < 8
    → Summed (free_at ts) (2 ^ 28) e.free (trees_of c) → Summed (alloc_at c.tree_order ts) 2048 e.alloc (trees_of c) → Summed (tree_at ts) 1 e.trees (trees_of c)
    → Summed (held_on c.tree_order ts ls) (2 ^ 19) held (local_count c.places) → row_of c.tree_order e (local_free c ls k) held k ≡ tally c ts ls k
unfolding row_of tally entry_free entry_alloc in_use over_class reserved_free free_at alloc_at tree_at held_on
row_is c ts ls e held k l a b d g = rw (a.sums k l, b.sums k l, d.sums k l, g.sums k l)

-- a row of zeros
abbrev pub zero_row : Tally
zero_row = record { free = 0; alloc = 0; used = 0 }

-- eight rows, each that of its class, are the rows of the definition
pub rows-tallies : (c : Config) (ts ls : List ℕ) (rows : List Tally) → length rows ≡ 8 → ((k : ℕ) → k < 8 → get_or rows k zero_row ≡ tally c ts ls k) → rows ≡ tallies c ts ls 0 8
unfolding tallies
rows-tallies c ts ls (a ∷ b ∷ d ∷ e ∷ f ∷ g ∷ h ∷ i ∷ []) n r =
    let p : a ≡ tally c ts ls 0 = r 0 (omega arith) in
    let q : b ≡ tally c ts ls 1 = r 1 (omega arith) in
    let s : d ≡ tally c ts ls 2 = r 2 (omega arith) in
    let t : e ≡ tally c ts ls 3 = r 3 (omega arith) in
    let u : f ≡ tally c ts ls 4 = r 4 (omega arith) in
    let v : g ≡ tally c ts ls 5 = r 5 (omega arith) in
    let w : h ≡ tally c ts ls 6 = r 6 (omega arith) in
    let x : i ≡ tally c ts ls 7 = r 7 (omega arith) in
    rw (p, q, s, t, u, v, w, x)
rows-tallies c ts ls [] n r = absurd (omega arith)
rows-tallies c ts ls (a ∷ []) n r = absurd (omega arith)
rows-tallies c ts ls (a ∷ b ∷ []) n r = absurd (omega arith)
rows-tallies c ts ls (a ∷ b ∷ d ∷ []) n r = absurd (omega arith)
rows-tallies c ts ls (a ∷ b ∷ d ∷ e ∷ []) n r = absurd (omega arith)
rows-tallies c ts ls (a ∷ b ∷ d ∷ e ∷ f ∷ []) n r = absurd (omega arith)
rows-tallies c ts ls (a ∷ b ∷ d ∷ e ∷ f ∷ g ∷ []) n r = absurd (omega arith)
rows-tallies c ts ls (a ∷ b ∷ d ∷ e ∷ f ∷ g ∷ h ∷ []) n r = absurd (omega arith)
rows-tallies c ts ls (a ∷ b ∷ d ∷ e ∷ f ∷ g ∷ h ∷ i ∷ j ∷ l) n r = absurd (omega arith)

-- the first n of the rows r stored over those of l, one after the other
unfoldable pub stores : List Tally → List Tally → ℕ → List Tally
stores l r zero = l
stores l r (suc n) = set (stores l r n) n (get_or r n zero_row)

stores-length : (l r : List Tally) (n : ℕ) → length (stores l r n) ≡ length l
unfolding stores
stores-length l r zero = refl
stores-length l r (suc n) = length-set (stores l r n) n _ ∙ stores-length l r n

stores-row : (l r : List Tally) (n : ℕ) → n ≤ length l → (k : ℕ) → k < n → get_or (stores l r n) k zero_row ≡ get_or r k zero_row
unfolding stores
stores-row l r zero few k lt = absurd (omega arith)
stores-row l r (suc n) few k lt = by-last (eqb k n) refl (λ below. stores-row l r n (omega arith) k below)
  where
    by-last : (b : Bool) → eqb k n ≡ b → (k < n → get_or (stores l r n) k zero_row ≡ get_or r k zero_row) → get_or (set (stores l r n) n (get_or r n zero_row)) k zero_row ≡ get_or r k zero_row
    by-last true e before = let q : k ≡ n = eqb-true k n e in rw q (get_or-set_same (stores l r n) n _ zero_row (omega (arith, stores-length l r n)))
    by-last false e before = get_or-set_other (stores l r n) n k _ zero_row (eqb-false k n e) ∙ before (let q = eqb-false k n e in omega arith)

-- eight stores over eight rows leave the first eight of r
pub stores-take : (l r : List Tally) → length l ≡ 8 → 8 ≤ length r → stores l r 8 ≡ take 8 r
stores-take l r n m =
    ext_get_or zero_row (stores l r 8) (take 8 r) (stores-length l r 8 ∙ n ∙ sym (length-take-le 8 r m))
    (λ i lt. let few : i < 8 = (let e = stores-length l r 8 in omega arith) in stores-row l r 8 (omega arith) i few ∙ sym (get_or-take 8 r i zero_row few))

-- eight stores leave nothing of eight rows
pub stores-all : (l r : List Tally) → length l ≡ 8 → length r ≡ 8 → stores l r 8 ≡ r
stores-all l r n m = stores-take l r n (omega arith) ∙ take_all 8 r (omega arith)
