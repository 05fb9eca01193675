-- The test of the whole state and its parts: what a part that passes says, and what makes it pass. Assumes nothing.
use Rattle.std.specs.Prelude.{◌≡◌, refl, Bool, false, List, ℕ, ◌+◌, ◌-◌, ◌*◌, ◌<◌, ◌≤◌, eqb, leb, ltb, get_or, length}
use Rattle.std.proofs.Common.{sym}
use Rattle.std.proofs.Math.Path.{ap}
use Rattle.std.proofs.Math.Bool.{true, not}
use borrow.Author.Tests.{eqb-true, leb-true, ltb-true, eq-eqb, ne_eqb, le-leb, lt-ltb, eqb-false, not-true}
use Rattle.rules.specs.Base.{pick, all_below}
use Rattle.rules.specs.Words.{Config, tree_frames, trees_of, configured, locals_of, slot, local_count, entry_at, local_at}
use Rattle.rules.specs.Policy.{accepted, good, Good}
use Rattle.rules.specs.Lower.{held, clear}
use Rattle.rules.specs.declared.Local.{Local}
use Rattle.rules_calls.specs.Standing.{tree_on, lengths_exact, entry_stands, holder_stands, local_stands, class_stands, apart, apart_before, reserved_count, present_count, past_held, standing}
use Rattle.law_rules.specs.All.{true-false, both_left, both_right, both_true, all-at, all-make}
use Rattle.law_rules.specs.Kinds.{good-fact, good-true}
use Rattle.law_calls.specs.Tested.{Lengths, lengths-say, say-lengths, standing-accepted}

-- of an entry
pub record EntryPart (c : Config) (ts bs : List ℕ) (t : ℕ) : Type 0 where
  pub free : (entry_at ts t).free ≤ tree_frames c.tree_order
  pub class : configured c.places (entry_at ts t).class ≡ true
  pub unheld : (entry_at ts t).reserved ≡ false → (entry_at ts t).free ≡ clear c.tree_order bs t

-- of a present local of class k
pub record HolderPart (c : Config) (ts bs : List ℕ) (k : ℕ) (l : Local) : Type 0 where
  pub inside : tree_on c.tree_order l < trees_of c
  pub reserved : (entry_at ts (tree_on c.tree_order l)).reserved ≡ true
  pub pair : Good c k (entry_at ts (tree_on c.tree_order l)).class
  pub sum : (entry_at ts (tree_on c.tree_order l)).free + l.free ≡ clear c.tree_order bs (tree_on c.tree_order l)

-- of the whole state
pub record Parts (c : Config) (ts ls bs : List ℕ) : Type 0 where
  pub config : accepted c ≡ true
  pub lengths : Lengths c ts ls bs
  pub entries : (t : ℕ) → t < trees_of c → EntryPart c ts bs t
  pub present : (k i : ℕ) → k < 8 → i < locals_of c.places k → (local_at ls (slot c.places k i)).present ≡ true → HolderPart c ts bs k (local_at ls (slot c.places k i))
  pub absent : (k i : ℕ) → k < 8 → i < locals_of c.places k → (local_at ls (slot c.places k i)).present ≡ false → get_or ls (slot c.places k i) 0 ≡ 0
  pub distinct : (i j : ℕ) → i < j → j < local_count c.places → (local_at ls i).present ≡ true → (local_at ls j).present ≡ true → tree_on c.tree_order (local_at ls i) ≡ tree_on c.tree_order (local_at ls j) → ⊥
  pub counts : reserved_count ts (trees_of c) ≡ present_count ls (local_count c.places)
  pub past : held bs c.frames (length bs * 64 - c.frames) ≡ length bs * 64 - c.frames

pick_at : (t a b : Bool) → pick t a b ≡ true → t ≡ true → a ≡ true
pick_at true a b h e = h
pick_at false a b h e = true-false e refl

pick-else : (t a b : Bool) → pick t a b ≡ true → t ≡ false → b ≡ true
pick-else true a b h e = true-false refl e
pick-else false a b h e = h

pick-make : (t a b : Bool) → (t ≡ true → a ≡ true) → (t ≡ false → b ≡ true) → pick t a b ≡ true
pick-make true a b f g = f refl
pick-make false a b f g = g refl

module _ (c : Config) (ts ls bs : List ℕ) where
  entry-says : (t : ℕ) → entry_stands c ts bs t ≡ true → EntryPart c ts bs t
  unfolding entry_stands
  entry-says t e =
      let r = both_right (leb (entry_at ts t).free (tree_frames c.tree_order)) _ e in
      record {
        free = leb-true _ _ (both_left (leb (entry_at ts t).free (tree_frames c.tree_order)) _ e);
        class = both_left (configured c.places (entry_at ts t).class) _ r;
        unheld = λ p. eqb-true _ _ (pick-else (entry_at ts t).reserved true _ (both_right (configured c.places (entry_at ts t).class) _ r) p);
      }

  says-entry : (t : ℕ) → EntryPart c ts bs t → entry_stands c ts bs t ≡ true
  unfolding entry_stands
  says-entry t E =
      both_true (leb (entry_at ts t).free (tree_frames c.tree_order)) _ (le-leb _ _ E.free)
      (both_true (configured c.places (entry_at ts t).class) _ E.class
      (pick-make (entry_at ts t).reserved true (eqb (entry_at ts t).free (clear c.tree_order bs t)) (λ _. refl) (λ p. eq-eqb _ _ (E.unheld p))))

  holder-says : (k : ℕ) (l : Local) → holder_stands c ts bs k l ≡ true → HolderPart c ts bs k l
  unfolding holder_stands
  holder-says k l e =
      let a = both_right (ltb (tree_on c.tree_order l) (trees_of c)) _ e in
      let b = both_right (entry_at ts (tree_on c.tree_order l)).reserved _ a in
      record {
        inside = ltb-true _ _ (both_left (ltb (tree_on c.tree_order l) (trees_of c)) _ e);
        reserved = both_left (entry_at ts (tree_on c.tree_order l)).reserved _ a;
        pair = good-fact c k (entry_at ts (tree_on c.tree_order l)).class (both_left (good c k (entry_at ts (tree_on c.tree_order l)).class) _ b);
        sum = eqb-true _ _ (both_right (good c k (entry_at ts (tree_on c.tree_order l)).class) _ b);
      }

  says-holder : (k : ℕ) (l : Local) → HolderPart c ts bs k l → holder_stands c ts bs k l ≡ true
  unfolding holder_stands
  says-holder k l H =
      both_true (ltb (tree_on c.tree_order l) (trees_of c)) _ (lt-ltb _ _ H.inside)
      (both_true (entry_at ts (tree_on c.tree_order l)).reserved _ H.reserved
      (both_true (good c k (entry_at ts (tree_on c.tree_order l)).class) _ (good-true c k (entry_at ts (tree_on c.tree_order l)).class H.pair) (eq-eqb _ _ H.sum)))

  local-at : (k i : ℕ) → k < 8 → i < locals_of c.places k → all_below 8 (class_stands c ts ls bs) ≡ true → local_stands c ts ls bs k (slot c.places k i) ≡ true
  unfolding class_stands
  local-at k i lk li e = all-at (locals_of c.places k) (λ i. local_stands c ts ls bs k (slot c.places k i)) (all-at 8 (class_stands c ts ls bs) e k lk) i li

  local-make : ((k i : ℕ) → k < 8 → i < locals_of c.places k → local_stands c ts ls bs k (slot c.places k i) ≡ true) → all_below 8 (class_stands c ts ls bs) ≡ true
  unfolding class_stands
  local-make h = all-make 8 (class_stands c ts ls bs) (λ k lk. all-make (locals_of c.places k) (λ i. local_stands c ts ls bs k (slot c.places k i)) (λ i li. h k i lk li))

  -- two present locals that stand apart hold distinct trees
  pub apart-says : (i j : ℕ) → i < j → apart_before c.tree_order ls j ≡ true → (local_at ls i).present ≡ true → (local_at ls j).present ≡ true → tree_on c.tree_order (local_at ls i) ≡ tree_on c.tree_order (local_at ls j) → ⊥
  unfolding apart_before apart
  apart-says i j l e p q d =
      eqb-false _ _ (not-true _ (pick_at (local_at ls i).present _ true (pick_at (local_at ls j).present _ true (all-at j (λ i. apart c.tree_order (local_at ls j) (local_at ls i)) e i l) q) p)) (sym d)

  says-apart : (j : ℕ) → ((i : ℕ) → i < j → (local_at ls i).present ≡ true → (local_at ls j).present ≡ true → tree_on c.tree_order (local_at ls i) ≡ tree_on c.tree_order (local_at ls j) → ⊥) → apart_before c.tree_order ls j ≡ true
  unfolding apart_before apart
  says-apart j h =
      all-make j (λ i. apart c.tree_order (local_at ls j) (local_at ls i))
      (λ i l. pick-make (local_at ls j).present _ true (λ q. pick-make (local_at ls i).present _ true (λ p. ap not (ne_eqb (tree_on c.tree_order (local_at ls j)) (tree_on c.tree_order (local_at ls i)) (λ d. h i l p q (sym d)))) (λ _. refl)) (λ _. refl))

  -- the parts of a state that passes
  pub test_parts : standing c ts ls bs ≡ true → Parts c ts ls bs
  unfolding standing local_stands past_held
  test_parts e =
      let a = both_right (accepted c) _ e in
      let b = both_right (lengths_exact c ts ls bs) _ a in
      let d = both_right (all_below (trees_of c) (entry_stands c ts bs)) _ b in
      let f = both_right (all_below 8 (class_stands c ts ls bs)) _ d in
      let g = both_right (all_below (local_count c.places) (apart_before c.tree_order ls)) _ f in
      let locals = both_left (all_below 8 (class_stands c ts ls bs)) _ d in
      record {
        config = standing-accepted c ts ls bs e;
        lengths = lengths-say c ts ls bs (both_left (lengths_exact c ts ls bs) _ a);
        entries = λ t lt. entry-says t (all-at (trees_of c) (entry_stands c ts bs) (both_left (all_below (trees_of c) (entry_stands c ts bs)) _ b) t lt);
        present = λ k i lk li p. holder-says k (local_at ls (slot c.places k i)) (pick_at (local_at ls (slot c.places k i)).present _ _ (local-at k i lk li locals) p);
        absent = λ k i lk li p. eqb-true _ _ (pick-else (local_at ls (slot c.places k i)).present _ _ (local-at k i lk li locals) p);
        distinct = λ i j l m. apart-says i j l (all-at (local_count c.places) (apart_before c.tree_order ls) (both_left (all_below (local_count c.places) (apart_before c.tree_order ls)) _ f) j m);
        counts = eqb-true _ _ (both_left (eqb (reserved_count ts (trees_of c)) (present_count ls (local_count c.places))) _ g);
        past = eqb-true _ _ (both_right (eqb (reserved_count ts (trees_of c)) (present_count ls (local_count c.places))) _ g);
      }

  -- and a state with these parts passes
  pub parts-test : Parts c ts ls bs → standing c ts ls bs ≡ true
  unfolding standing local_stands past_held
  parts-test P =
      both_true (accepted c) _ P.config
      (both_true (lengths_exact c ts ls bs) _ (say-lengths c ts ls bs P.lengths)
      (both_true (all_below (trees_of c) (entry_stands c ts bs)) _ (all-make (trees_of c) (entry_stands c ts bs) (λ t lt. says-entry t (P.entries t lt)))
      (both_true (all_below 8 (class_stands c ts ls bs)) _
      (local-make (λ k i lk li. pick-make (local_at ls (slot c.places k i)).present _ _ (λ p. says-holder k (local_at ls (slot c.places k i)) (P.present k i lk li p)) (λ p. eq-eqb _ _ (P.absent k i lk li p))))
      (both_true (all_below (local_count c.places) (apart_before c.tree_order ls)) _ (all-make (local_count c.places) (apart_before c.tree_order ls) (λ j m. says-apart j (λ i l. P.distinct i j l m)))
      (both_true (eqb (reserved_count ts (trees_of c)) (present_count ls (local_count c.places))) _ (eq-eqb _ _ P.counts) (eq-eqb _ _ P.past))))))
