-- The standing rules in three forms that are one: the test, document 01's sentences, and the rules with nothing in hand. Assumes nothing.
use Rattle.std.specs.Prelude.{◌≡◌, refl, Bool, true, List, ℕ, ◌+◌, ◌-◌, ◌*◌, ◌^◌, ◌<◌, ◌≤◌, length}
use Rattle.std.proofs.Math.Path.{sym, ap}
use Rattle.std.proofs.Common.{◌∙◌, subst}
use Rattle.std.proofs.Math.Bool.{false}
use Rattle.std.proofs.Math.Logic.{⊎_elim}
use native.Mathlib.Omega.{arith}
use Rattle.std.proofs.Math.Decide.{dec_lt}
use Rattle.std.proofs.Math.ListN.{get_or, get_or-eq_default}
use Rattle.rules.specs.Base.{both, bit_of}
use Rattle.rules.specs.Words.{Config, tree_of, trees_of, local_count, slot, entry_at, local_at}
use Rattle.rules.specs.Policy.{accepted, Good}
use Rattle.rules.specs.Lower.{bit, held, clear}
use Rattle.rules_calls.specs.Standing.{tree_on, reserved_count, present_count, lengths_exact, standing, Standing}
use Rattle.rules_calls.specs.Calls.{start}
use Rattle.law_rules.specs.Cases.{neither-below}
use Rattle.law_rules.specs.Sum.{sum-all, one_at, sum-ext}
use Rattle.law_rules.specs.Held.{bit_le}
use Rattle.law_rules.specs.Clear.{clear-held}
use Rattle.law_rules.specs.All.{by, true-false}
use Rattle.law_rules.specs.Kinds.{configured-fact, configured-true}
use Rattle.law_rules.specs.Sizes.{Size}
use Rattle.law_rules.specs.SumTerms.{sum-tight}
use Rattle.law_rules.specs.RoundTrips.{present-lt, bit-true}
use Rattle.law_rules.specs.Slots.{slot_of}
use Rattle.thm_hand.specs.Hand.{shares, holders, Kept}
use Rattle.thm_keeps.specs.Calls.{start-keeps}
use Rattle.thm_keeps.specs.Holders.{holders-all, none-on, on_none, only-on, one_on, find-on}
use Rattle.thm_keeps.specs.Test.{HolderPart, Parts, test_parts, parts-test}

-- the lent tree words are words of 32 bits, so their class has three
abbrev pub TreeWords : List ℕ → Type 0
TreeWords ts = (t : ℕ) → get_or ts t 0 < 2 ^ 32

class-lt : (ts : List ℕ) → TreeWords ts → (t : ℕ) → (entry_at ts t).class < 8
unfolding tree_of
class-lt ts w t = omega (arith, w t)

module _ (c : Config) (sz : Size c.tree_order) (ts ls bs : List ℕ) where
  -- ---- the test, then the sentences
  module _ (eight : (t : ℕ) → t < trees_of c → (entry_at ts t).class < 8) (P : Parts c ts ls bs) where
    -- the part of the local in slot j
    holder-at : (j : ℕ) → j < local_count c.places → (local_at ls j).present ≡ true
        → (tree_on c.tree_order (local_at ls j) < trees_of c) × (((entry_at ts (tree_on c.tree_order (local_at ls j))).reserved ≡ true)
        × ((entry_at ts (tree_on c.tree_order (local_at ls j))).free + (local_at ls j).free ≡ clear c.tree_order bs (tree_on c.tree_order (local_at ls j))))
    holder-at j lt p =
        let L = slot_of c.places j lt in
        subst
        (λ (x : ℕ). (local_at ls x).present ≡ true → (tree_on c.tree_order (local_at ls x) < trees_of c) × (((entry_at ts (tree_on c.tree_order (local_at ls x))).reserved ≡ true)
        × ((entry_at ts (tree_on c.tree_order (local_at ls x))).free + (local_at ls x).free ≡ clear c.tree_order bs (tree_on c.tree_order (local_at ls x)))))
        L.is
        (λ q. let H = P.present L.class L.index L.class_lt L.index_lt q in (H.inside, (H.reserved, H.sum)))
        p

    absent-at : (j : ℕ) → j < local_count c.places → (local_at ls j).present ≡ false → get_or ls j 0 ≡ 0
    absent-at j lt p =
        let L = slot_of c.places j lt in
        subst (λ (x : ℕ). (local_at ls x).present ≡ false → get_or ls x 0 ≡ 0) L.is (P.absent L.class L.index L.class_lt L.index_lt) p

    here_lt : (j : ℕ) → (local_at ls j).present ≡ true → j < local_count c.places
    here_lt j p = omega (arith, present-lt ls j p, P.lengths.local_words)

    distinct-at : (i j : ℕ) → (local_at ls i).present ≡ true → (local_at ls j).present ≡ true → tree_on c.tree_order (local_at ls i) ≡ tree_on c.tree_order (local_at ls j) → i ≡ j
    distinct-at i j p q e = neither-below i j (λ l. P.distinct i j l (here_lt j q) p q e) (λ l. P.distinct j i l (here_lt i p) q p (sym e))

    -- a tree has as many holders as its entry is reserved, at most
    holders-le : (t : ℕ) → t < trees_of c → holders c.tree_order t ls ≤ bit_of (entry_at ts t).reserved
    holders-le t lt =
        ⊎_elim
        (λ e. omega (arith, e))
        (λ h.
        let j : ℕ = h.0 in
        let on = h.1.1.1 in
        let r : (entry_at ts t).reserved ≡ true = subst (λ (x : ℕ). (entry_at ts x).reserved ≡ true) on (holder-at j (here_lt j h.1.1.0) h.1.1.0).1.0 in
        let one = only-on c.tree_order t ls j h.1.1.0 on (λ i p o. distinct-at i j p h.1.1.0 (o ∙ sym on)) in
        omega (arith, one.0, ap bit_of r))
        (find-on c.tree_order t ls)

    -- and exactly, since there are as many present locals as reserved entries
    holders-are : (t : ℕ) → t < trees_of c → holders c.tree_order t ls ≡ bit_of (entry_at ts t).reserved
    unfolding reserved_count
    holders-are t lt =
        sum-tight (λ t. holders c.tree_order t ls) (λ t. bit_of (entry_at ts t).reserved) 0 (trees_of c) (λ i x y. holders-le i (omega arith))
        (holders-all c.tree_order ls (trees_of c) (λ j p. (holder-at j (here_lt j p) p).0) ∙ ap (present_count ls) P.lengths.local_words ∙ sym P.counts) t (omega arith) (omega arith)

    parts-rules : Standing c ts ls bs
    unfolding held
    parts-rules =
        record {
          config = P.config;
          tree_words = P.lengths.tree_words;
          local_words = P.lengths.local_words;
          bit_words = P.lengths.bit_words;
          free = λ t lt. (P.entries t lt).free;
          class = λ t lt. configured-fact c (entry_at ts t).class (eight t lt) (P.entries t lt).class;
          inside = λ j lt p. (holder-at j lt p).0;
          entry_reserved = λ j lt p. (holder-at j lt p).1.0;
          distinct = λ i j li lj p q. distinct-at i j p q;
          holder = λ t lt r.
              ⊎_elim
              (λ e. absurd (omega (arith, e, holders-are t lt, ap bit_of r)))
              (λ h. (h.0, (omega (arith, h.1.0, P.lengths.local_words), h.1.1)))
              (find-on c.tree_order t ls);
          pair = λ k i lk li p. (P.present k i lk li p).pair;
          unheld = λ t lt. (P.entries t lt).unheld;
          sum = λ j lt p. (holder-at j lt p).1.1;
          past = λ f ge lt. one_at (bit bs) c.frames (length bs * 64 - c.frames) (bit_le bs) P.past f ge (omega arith);
          absent = absent-at;
        }

  -- ---- the sentences, then the rules with nothing in hand
  module _ (S : Standing c ts ls bs) where
    inside-lt : (j : ℕ) → (local_at ls j).present ≡ true → j < local_count c.places
    inside-lt j p = omega (arith, present-lt ls j p, S.local_words)

    -- a reserved tree is in one local, another in none
    reserved-one : (t : ℕ) → t < trees_of c → (entry_at ts t).reserved ≡ true
        → (holders c.tree_order t ls ≡ 1) × ((entry_at ts t).free + shares c.tree_order t ls ≡ clear c.tree_order bs t)
    reserved-one t lt r =
        let h = S.holder t lt r in
        let j : ℕ = h.0 in
        let p = h.1.1.0 in
        let on = h.1.1.1 in
        let one = only-on c.tree_order t ls j p on (λ i q o. S.distinct i j (inside-lt i q) (inside-lt j p) q p (o ∙ sym on)) in
        (one.0, ap (λ (x : ℕ). (entry_at ts t).free + x) one.1 ∙ subst (λ (x : ℕ). (entry_at ts x).free + (local_at ls j).free ≡ clear c.tree_order bs x) on (S.sum j h.1.0 p))

    unreserved-none : (t : ℕ) → (entry_at ts t).reserved ≡ false → (holders c.tree_order t ls ≡ 0) × (shares c.tree_order t ls ≡ 0)
    unreserved-none t r = on_none c.tree_order t ls (λ j p o. true-false (subst (λ (x : ℕ). (entry_at ts x).reserved ≡ true) o (S.entry_reserved j (inside-lt j p) p)) r)

    rules-one : (t : ℕ) → t < trees_of c → holders c.tree_order t ls ≡ bit_of (entry_at ts t).reserved
    rules-one t lt = by (entry_at ts t).reserved (λ r. (reserved-one t lt r).0 ∙ ap bit_of (sym r)) (λ r. (unreserved-none t r).0 ∙ ap bit_of (sym r))

    rules-sum : (t : ℕ) → t < trees_of c → (entry_at ts t).free + shares c.tree_order t ls ≡ clear c.tree_order bs t
    rules-sum t lt = by (entry_at ts t).reserved (λ r. (reserved-one t lt r).1) (λ r. omega (arith, (unreserved-none t r).1, S.unheld t lt r))

    -- a state that keeps the sentences keeps the rules with nothing in hand
    pub rules-kept : Kept c ts ls bs
    unfolding held
    rules-kept =
        record {
          config = S.config;
          tree_words = S.tree_words;
          local_words = S.local_words;
          bit_words = S.bit_words;
          free = S.free;
          class = S.class;
          one = λ t lt. omega (arith, rules-one t lt);
          sum = λ t lt. omega (arith, rules-sum t lt, clear-held c.tree_order bs t sz.least);
          inside = λ j p. S.inside j (inside-lt j p) p;
          pair = S.pair;
          absent = λ j p. go j p (dec_lt j (local_count c.places));
          past = sum-all (bit bs) c.frames (length bs * 64 - c.frames) (λ f ge lt. S.past f ge (omega arith));
        }
      where
        go : (j : ℕ) → (local_at ls j).present ≡ false → Dec (j < local_count c.places) → get_or ls j 0 ≡ 0
        go j p (yes l) = S.absent j l p
        go j p (no l) = get_or-eq_default ls 0 (omega (arith, S.local_words))

  -- ---- the rules with nothing in hand, then the test
  module _ (K : Kept c ts ls bs) where
    kept-le : (t : ℕ) → t < trees_of c → holders c.tree_order t ls ≤ 1
    kept-le t lt = by (entry_at ts t).reserved (λ r. omega (arith, K.one t lt, ap bit_of r)) (λ r. omega (arith, K.one t lt, ap bit_of r))

    -- a present local is the only one on its tree
    kept-only : (j : ℕ) → (local_at ls j).present ≡ true
        → (holders c.tree_order (tree_on c.tree_order (local_at ls j)) ls ≡ 1) × (shares c.tree_order (tree_on c.tree_order (local_at ls j)) ls ≡ (local_at ls j).free)
    kept-only j p =
        only-on c.tree_order (tree_on c.tree_order (local_at ls j)) ls j p refl
        (λ i q o. one_on c.tree_order (tree_on c.tree_order (local_at ls j)) ls (kept-le _ (K.inside j p)) i j q o p refl)

    kept-holder : (k j : ℕ) → (p : (local_at ls j).present ≡ true) → Good c k (entry_at ts (tree_on c.tree_order (local_at ls j))).class → HolderPart c ts bs k (local_at ls j)
    kept-holder k j p g =
        let t : ℕ = tree_on c.tree_order (local_at ls j) in
        let lt = K.inside j p in
        let one = kept-only j p in
        record {
          inside = lt;
          reserved = bit-true (entry_at ts t).reserved (omega (arith, K.one t lt, one.0));
          pair = g;
          sum = omega (arith, K.sum t lt, one.1, clear-held c.tree_order bs t sz.least);
        }

    kept-parts : Parts c ts ls bs
    unfolding reserved_count
    kept-parts =
        record {
          config = K.config;
          lengths = record { tree_words = K.tree_words; local_words = K.local_words; bit_words = K.bit_words };
          entries = λ t lt. record {
            free = K.free t lt;
            class = configured-true c (entry_at ts t).class (K.class t lt);
            unheld = λ r.
                let n = on_none c.tree_order t ls (none-on c.tree_order t ls (omega (arith, K.one t lt, ap bit_of r))) in
                omega (arith, K.sum t lt, n.1, clear-held c.tree_order bs t sz.least);
          };
          present = λ k i lk li p. kept-holder k (slot c.places k i) p (K.pair k i lk li p);
          absent = λ k i lk li p. K.absent (slot c.places k i) p;
          distinct = λ i j l m p q e. absurd (omega (arith, one_on c.tree_order (tree_on c.tree_order (local_at ls j)) ls (kept-le _ (K.inside j q)) i j p e q refl));
          counts =
              sym (sum-ext (λ t. holders c.tree_order t ls) (λ t. bit_of (entry_at ts t).reserved) 0 (trees_of c) (λ t x y. (let lt : t < trees_of c = omega arith in omega (arith, K.one t lt))))
              ∙ holders-all c.tree_order ls (trees_of c) K.inside ∙ ap (present_count ls) K.local_words;
          past = K.past;
        }

  -- ---- the theorems
  -- a state of 32-bit tree words that passes the test keeps document 01's sentences
  pub test-rules : TreeWords ts → standing c ts ls bs ≡ true → Standing c ts ls bs
  test-rules w e = parts-rules (λ t _. class-lt ts w t) (test_parts c ts ls bs e)

  -- a state that keeps the rules with nothing in hand passes the test
  pub kept_test : Kept c ts ls bs → standing c ts ls bs ≡ true
  kept_test K = parts-test c ts ls bs (kept-parts K)

  -- and keeps the sentences
  pub kept-rules : Kept c ts ls bs → Standing c ts ls bs
  kept-rules K = parts-rules (λ t lt. (K.class t lt).0) (kept-parts K)

  -- so each way round
  pub rules-test : Standing c ts ls bs → standing c ts ls bs ≡ true
  rules-test S = kept_test (rules-kept S)

  pub test-kept : TreeWords ts → standing c ts ls bs ≡ true → Kept c ts ls bs
  test-kept w e = rules-kept (test-rules w e)

-- an accepted start passes the test, for all lent words
pub start-standing : (c : Config) → Size c.tree_order → (all_free : Bool) (t l b : List ℕ) → both (accepted c) (lengths_exact c t l b) ≡ true
    → standing c (start c all_free t l b).trees (start c all_free t l b).locals (start c all_free t l b).bits ≡ true
start-standing c sz all_free t l b e = kept_test c sz _ _ _ (start-keeps c t l b sz all_free e).kept
