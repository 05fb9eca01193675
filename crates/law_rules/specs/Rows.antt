-- The test of the table row by row, which the code makes: the form and the rules only at pairs of configured classes, zeros elsewhere. It is the same test. Assumes nothing.
use Rattle.std.specs.Prelude.{◌≡◌, refl, Bool, false, List, ℕ, ◌%◌, ◌<◌, eqb, leb, ltb, get_or}
use Rattle.std.proofs.Math.Bool.{true}
use native.Mathlib.Omega.{arith}
use borrow.Author.Tests.{lt-ltb, ltb-true, eq-eqb, eqb-true}
use Rattle.rules.specs.Base.{pick, both, all_below}
use Rattle.rules.specs.Words.{Config, configured}
use Rattle.rules.specs.Policy.{pair_of, kind_of, cut_of, low_of, high_of, kind_at, good, pair_formed, table_formed, implies, table_rules, Configured, Good}
use Rattle.law_rules.specs.All.{by, same_test, both_left, both_right, both_true, implies-at, implies-make, all-at, all-make}
use Rattle.law_rules.specs.Kinds.{good-true, good-fact, configured-true, configured-fact, unconfigured-fact}
use Rattle.law_rules.specs.Accepted.{PairForm, AcceptedTable, kind-alone, formed-says, says-formed, pair-configured, table-says, says-table}

-- the pair is Invalid, with zeros
abbrev pub pair_empty : Config → ℕ → ℕ → Bool
pair_empty c o e = eqb (pair_of c o e) 0

-- if (e, f) is good then (o, f) is good
abbrev pub pair_covered : Config → ℕ → ℕ → ℕ → Bool
pair_covered c o e f = implies (good c e f) (good c o f)

-- every class that e is good with, o is good with
unfoldable pub covers : Config → ℕ → ℕ → Bool
covers c o e = all_below 8 (pair_covered c o e)

-- the second rule at a pair
unfoldable pub leads_back : Config → ℕ → ℕ → Bool
leads_back c o e = implies (good c o e) (implies (ltb 0 (kind_at c e c.default)) (good c o c.default))

-- the third rule at a pair
unfoldable pub demote_covers : Config → ℕ → ℕ → Bool
demote_covers c o e = implies (eqb (kind_at c o e) 2) (covers c o e)

-- the pair of a configured class o and a class e: its form and the two rules, or zeros
unfoldable pub cell_accepted : Config → ℕ → ℕ → Bool
cell_accepted c o e =
    pick (configured c.places e)
    (both (pair_formed c.tree_order (pair_of c o e)) (both (leads_back c o e) (demote_covers c o e)))
    (pair_empty c o e)

-- the eight pairs of an unconfigured class
unfoldable pub row_empty : Config → ℕ → Bool
row_empty c o = all_below 8 (pair_empty c o)

-- the eight pairs of a requested class
unfoldable pub row_accepted : Config → ℕ → Bool
row_accepted c o = pick (configured c.places o) (both (good c o o) (all_below 8 (cell_accepted c o))) (row_empty c o)

-- a class is unconfigured or has 0 to 32 locals
abbrev pub place_fits : List ℕ → ℕ → Bool
place_fits ps k = leb (get_or ps k 0) 33

module _ (c : Config) where
  -- a word of zeros has the form of Invalid
  zero-formed : (z w : ℕ) → w ≡ 0 → PairForm z w
  unfolding pair_formed kind_of
  zero-formed z w h = rw h (formed-says z 0 refl)

  -- and is Invalid
  zero-kind : (o e : ℕ) → pair_of c o e ≡ 0 → kind_at c o e ≡ 0
  unfolding kind_at kind_of
  zero-kind o e h = rw h

  -- an Invalid pair of its form is 0
  kind-zero : (o e : ℕ) → PairForm c.tree_order (pair_of c o e) → kind_at c o e ≡ 0 → pair_of c o e ≡ 0
  unfolding kind_at kind_of cut_of low_of high_of
  kind-zero o e f h =
      let n : pair_of c o e % 4 ≡ 3 → ⊥ = λ t. omega arith in
      let g = f.zeros n in
      let l : pair_of c o e < 4 = kind-alone (pair_of c o e) g.0 g.1.0 g.1.1 in
      omega arith

  -- the rows' test passes: what it says at the pairs of a row
  module _ (h : all_below 8 (row_accepted c) ≡ true) (o : ℕ) (lo : o < 8) where
    row_on : configured c.places o ≡ true → both (good c o o) (all_below 8 (cell_accepted c o)) ≡ true
    unfolding row_accepted
    row_on a = rw a at (all-at 8 (row_accepted c) h o lo)

    row-off : configured c.places o ≡ false → (e : ℕ) → e < 8 → pair_of c o e ≡ 0
    unfolding row_accepted row_empty
    row-off a e le = let t : all_below 8 (pair_empty c o) ≡ true = rw a at (all-at 8 (row_accepted c) h o lo) in
        eqb-true _ _ (all-at 8 (pair_empty c o) t e le)

    cell_at : configured c.places o ≡ true → (e : ℕ) → e < 8 → cell_accepted c o e ≡ true
    cell_at a e le = all-at 8 (cell_accepted c o) (both_right (good c o o) _ (row_on a)) e le

    -- a pair of two configured classes
    module _ (a : configured c.places o ≡ true) (e : ℕ) (le : e < 8) (b : configured c.places e ≡ true) where
      cell-on : both (pair_formed c.tree_order (pair_of c o e)) (both (leads_back c o e) (demote_covers c o e)) ≡ true
      unfolding cell_accepted
      cell-on = rw b at (cell_at a e le)

      cell-formed : PairForm c.tree_order (pair_of c o e)
      cell-formed = formed-says c.tree_order (pair_of c o e) (both_left (pair_formed c.tree_order (pair_of c o e)) _ cell-on)

      -- the second rule
      cell-back : Good c o e → 0 < kind_at c e c.default → Good c o c.default
      unfolding leads_back
      cell-back g n = good-fact c o c.default
          (implies-at (ltb 0 (kind_at c e c.default)) _
          (implies-at (good c o e) _ (both_left (leads_back c o e) (demote_covers c o e) (both_right (pair_formed c.tree_order (pair_of c o e)) _ cell-on)) (good-true c o e g)) (lt-ltb _ _ n))

      -- the third rule
      cell-covers : kind_at c o e ≡ 2 → (f : ℕ) → f < 8 → Good c e f → Good c o f
      unfolding demote_covers covers
      cell-covers n f lf g = good-fact c o f (implies-at (good c e f) _ (all-at 8 (pair_covered c o e)
          (implies-at (eqb (kind_at c o e) 2) _ (both_right (leads_back c o e) (demote_covers c o e) (both_right (pair_formed c.tree_order (pair_of c o e)) _ cell-on)) (eq-eqb _ _ n))
          f lf) (good-true c e f g))

    -- a pair with an unconfigured class e
    cell-off : configured c.places o ≡ true → (e : ℕ) → e < 8 → configured c.places e ≡ false → pair_of c o e ≡ 0
    unfolding cell_accepted
    cell-off a e le b = eqb-true _ _ (rw b at (cell_at a e le))

  -- the rows' test passes: so 01 accepts the table
  pub rows-say : all_below 8 (row_accepted c) ≡ true → AcceptedTable c
  rows-say h = record {
    formed = λ o e lo le. by (configured c.places o)
        (λ a. by (configured c.places e) (λ b. cell-formed h o lo a e le b) (λ b. zero-formed c.tree_order (pair_of c o e) (cell-off h o lo a e le b)))
        (λ a. zero-formed c.tree_order (pair_of c o e) (row-off h o lo a e le));
    invalid = λ o e lo le n. by (configured c.places o)
        (λ a. by (configured c.places e) (λ b. absurd (n (configured-fact c o lo a, configured-fact c e le b))) (λ b. zero-kind o e (cell-off h o lo a e le b)))
        (λ a. zero-kind o e (row-off h o lo a e le));
    rules = record {
      own = λ k l. good-fact c k k (both_left (good c k k) _ (row_on h k l.0 (configured-true c k l)));
      back = λ o e l m g n. cell-back h o l.0 (configured-true c o l) e m.0 (configured-true c e m) g n;
      down = λ o e k l m p g n. cell-covers h k p.0 (configured-true c k p) o l.0 (configured-true c o l) n e m.0 g;
    };
  }

  -- 01 accepts the table: so the rows' test passes
  module _ (t : AcceptedTable c) where
    -- the third rule at a pair
    say-covers : (o e : ℕ) → Configured c o → Configured c e → demote_covers c o e ≡ true
    unfolding demote_covers covers
    say-covers o e l m = implies-make (eqb (kind_at c o e) 2) _ (λ q. all-make 8 (pair_covered c o e) (λ f lf. implies-make (good c e f) _ (λ r.
        (let g : Good c e f = good-fact c e f r in
        good-true c o f (t.rules.down e f o m (pair-configured c t e f m.0 lf (omega arith)).1 l g (eqb-true _ _ q))))))

    -- the second
    say-back : (o e : ℕ) → Configured c o → Configured c e → leads_back c o e ≡ true
    unfolding leads_back
    say-back o e l m = implies-make (good c o e) _ (λ q. implies-make (ltb 0 (kind_at c e c.default)) _ (λ n.
        good-true c o c.default (t.rules.back o e l m (good-fact c o e q) (ltb-true _ _ n))))

    -- at a pair of a configured class
    say-cell : (o e : ℕ) → Configured c o → e < 8 → cell_accepted c o e ≡ true
    unfolding cell_accepted
    say-cell o e l le = by (configured c.places e)
        (λ b. (let m : Configured c e = configured-fact c e le b in
        rw b (both_true (pair_formed c.tree_order (pair_of c o e)) _ (says-formed c.tree_order (pair_of c o e) (t.formed o e l.0 le))
        (both_true (leads_back c o e) (demote_covers c o e) (say-back o e l m) (say-covers o e l m)))))
        (λ b. rw b (eq-eqb _ _ (kind-zero o e (t.formed o e l.0 le) (t.invalid o e l.0 le (λ y. unconfigured-fact c e b y.1)))))

    -- at a row
    say-row : (o : ℕ) → o < 8 → row_accepted c o ≡ true
    unfolding row_accepted row_empty
    say-row o lo = by (configured c.places o)
        (λ a. (let l : Configured c o = configured-fact c o lo a in
        rw a (both_true (good c o o) _ (good-true c o o (t.rules.own o l)) (all-make 8 (cell_accepted c o) (λ e le. say-cell o e l le)))))
        (λ a. rw a (all-make 8 (pair_empty c o) (λ e le. eq-eqb _ _ (kind-zero o e (t.formed o e lo le) (t.invalid o e lo le (λ y. unconfigured-fact c o a y.0))))))

    -- at all rows
    pub say-rows : all_below 8 (row_accepted c) ≡ true
    say-rows = all-make 8 (row_accepted c) say-row

  -- the table's test is the rows' test
  pub table-rows : both (table_formed c) (table_rules c) ≡ all_below 8 (row_accepted c)
  table-rows = same_test (both (table_formed c) (table_rules c)) (all_below 8 (row_accepted c)) (λ h. say-rows (table-says c h)) (λ h. says-table c (rows-say h))
