-- The moves between states with something in hand: an entry stored, a local stored, a block held, a block freed. Assumes nothing.
use Rattle.std.specs.Prelude.{◌≡◌, Bool, ◌≢◌, List, ℕ, ◌+◌, ◌-◌, ◌*◌, ◌^◌, ◌<◌, ◌≤◌, length, get_or, set}
use Rattle.std.proofs.Common.{ap, ◌∙◌, subst, arith, length-set, get_or-set_same, get_or-set_other}
use Rattle.std.proofs.Math.Bool.{true, false}
use Rattle.std.proofs.Math.Decide.{ℕ_discrete}
use Rattle.rules.specs.Base.{bit_of}
use Rattle.rules.specs.Words.{Config, tree_frames, trees_of, locals_of, slot, tree_of, tree_word, local_of, entry_at, local_at}
use Rattle.rules.specs.Policy.{Configured, Good}
use Rattle.rules.specs.Lower.{held, held_in, mark}
use Rattle.rules.specs.declared.Tree.{Tree}
use Rattle.rules_calls.specs.Standing.{tree_on}
use Rattle.thm_hand.specs.Hand.{here, share, holds, shares, holders, Hand}
use Rattle.law_rules.specs.Sizes.{Size, frames-le, next-tree}
use Rattle.law_rules.specs.RoundTrips.{tree-word}
use Rattle.law_rules.specs.Cases.{by_side}
use Rattle.law_rules.specs.Block.{Block}
use Rattle.law_rules.specs.Power.{Inside}
use Rattle.law_rules.specs.Mark.{Marked, marked, count-below, count-above, count-around, count_held, count-free}
use Rattle.law_rules.specs.Below.{free-below}
use Rattle.thm_hand.specs.Here.{here-same, here-other, shares-set, holders-set, on-holds}

module _ (c : Config) (sz : Size c.tree_order) (ts ls bs : List ℕ) (n h : ℕ → ℕ) (H : Hand c ts ls bs n h) where
  -- ---- the same in hand, said otherwise
  pub hand-same : (m g : ℕ → ℕ) → ((i : ℕ) → m i ≡ n i) → ((i : ℕ) → g i ≡ h i) → Hand c ts ls bs m g
  hand-same m g e d =
      record {
        config = H.config;
        tree_words = H.tree_words;
        local_words = H.local_words;
        bit_words = H.bit_words;
        free = H.free;
        class = H.class;
        one = λ t lt. omega (arith, H.one t lt, d t);
        sum = λ t lt. omega (arith, H.sum t lt, e t);
        inside = H.inside;
        pair = H.pair;
        absent = H.absent;
        past = H.past;
      }

  -- ---- an entry stored
  pub hand-entry : (t : ℕ) (e : Tree) (m g : ℕ → ℕ) → t < trees_of c → e.free ≤ tree_frames c.tree_order → Configured c e.class
      → ((i : ℕ) → here t e.free i + m i ≡ here t (entry_at ts t).free i + n i)
      → ((i : ℕ) → here t (bit_of e.reserved) i + h i ≡ here t (bit_of (entry_at ts t).reserved) i + g i)
      → ((o : ℕ) → o < 8 → 0 < holders c.tree_order t ls → Good c o (entry_at ts t).class → Good c o e.class)
      → Hand c (set ts t (tree_word e)) ls bs m g
  hand-entry t e m g lt small conf frames one good =
      record {
        config = H.config;
        tree_words = length-set ts t (tree_word e) ∙ H.tree_words;
        local_words = H.local_words;
        bit_words = H.bit_words;
        free = λ i l. at-free i l (ℕ_discrete i t);
        class = λ i l. at-class i l (ℕ_discrete i t);
        one = λ i l. at_one i l (ℕ_discrete i t);
        sum = λ i l. at_sum i l (ℕ_discrete i t);
        inside = H.inside;
        pair = λ k i lk li p. at_pair k i lk li p (ℕ_discrete (tree_on c.tree_order (local_at ls (slot c.places k i))) t);
        absent = H.absent;
        past = H.past;
      }
    where
      same : (i : ℕ) → i ≡ t → entry_at (set ts t (tree_word e)) i ≡ e
      same i d =
          ap (λ (x : ℕ). entry_at (set ts t (tree_word e)) x) d
          ∙ ap tree_of (get_or-set_same ts t (tree_word e) 0 (omega (arith, H.tree_words, lt)))
          ∙ tree-word e.free e.reserved e.class (omega (arith, small, frames-le c.tree_order sz)) conf.0

      other : (i : ℕ) → i ≢ t → entry_at (set ts t (tree_word e)) i ≡ entry_at ts i
      other i d = ap tree_of (get_or-set_other ts t i (tree_word e) 0 d)

      at-free : (i : ℕ) → i < trees_of c → Dec (i ≡ t) → (entry_at (set ts t (tree_word e)) i).free ≤ tree_frames c.tree_order
      at-free i l (yes d) = rw (same i d) small
      at-free i l (no d) = rw (other i d) (H.free i l)

      at-class : (i : ℕ) → i < trees_of c → Dec (i ≡ t) → Configured c (entry_at (set ts t (tree_word e)) i).class
      at-class i l (yes d) = rw (same i d) conf
      at-class i l (no d) = rw (other i d) (H.class i l)

      at_one : (i : ℕ) → i < trees_of c → Dec (i ≡ t) → holders c.tree_order i ls + g i ≡ bit_of (entry_at (set ts t (tree_word e)) i).reserved
      at_one i l (yes d) =
          let r : bit_of (entry_at ts i).reserved ≡ bit_of (entry_at ts t).reserved = ap (λ (x : ℕ). bit_of (entry_at ts x).reserved) d in
          rw (same i d) (omega (arith, H.one i l, one i, r, here-same t (bit_of e.reserved) i d, here-same t (bit_of (entry_at ts t).reserved) i d))
      at_one i l (no d) = rw (other i d) (omega (arith, H.one i l, one i, here-other t (bit_of e.reserved) i d, here-other t (bit_of (entry_at ts t).reserved) i d))

      at_sum : (i : ℕ) → i < trees_of c → Dec (i ≡ t)
          → (entry_at (set ts t (tree_word e)) i).free + shares c.tree_order i ls + m i + held bs (i * tree_frames c.tree_order) (tree_frames c.tree_order) ≡ tree_frames c.tree_order
      at_sum i l (yes d) =
          let r : (entry_at ts i).free ≡ (entry_at ts t).free = ap (λ (x : ℕ). (entry_at ts x).free) d in
          rw (same i d) (omega (arith, H.sum i l, frames i, r, here-same t e.free i d, here-same t (entry_at ts t).free i d))
      at_sum i l (no d) = rw (other i d) (omega (arith, H.sum i l, frames i, here-other t e.free i d, here-other t (entry_at ts t).free i d))

      at_pair : (k i : ℕ) → k < 8 → i < locals_of c.places k → (local_at ls (slot c.places k i)).present ≡ true
          → Dec (tree_on c.tree_order (local_at ls (slot c.places k i)) ≡ t) → Good c k (entry_at (set ts t (tree_word e)) (tree_on c.tree_order (local_at ls (slot c.places k i)))).class
      at_pair k i lk li p (yes d) =
          rw (same (tree_on c.tree_order (local_at ls (slot c.places k i))) d)
          (good k lk (on-holds c.tree_order t ls (slot c.places k i) p d) (subst (λ (x : ℕ). Good c k (entry_at ts x).class) d (H.pair k i lk li p)))
      at_pair k i lk li p (no d) = rw (other (tree_on c.tree_order (local_at ls (slot c.places k i))) d) (H.pair k i lk li p)

  -- ---- a local stored, as a word
  pub hand-local : (j w : ℕ) (m g : ℕ → ℕ) → j < length ls
      → ((i : ℕ) → share c.tree_order (local_of w) i + m i ≡ share c.tree_order (local_at ls j) i + n i)
      → ((i : ℕ) → holds c.tree_order (local_of w) i + g i ≡ holds c.tree_order (local_at ls j) i + h i)
      → ((local_of w).present ≡ true → tree_on c.tree_order (local_of w) < trees_of c)
      → ((k i : ℕ) → k < 8 → i < locals_of c.places k → slot c.places k i ≡ j → (local_of w).present ≡ true → Good c k (entry_at ts (tree_on c.tree_order (local_of w))).class)
      → ((local_of w).present ≡ false → w ≡ 0)
      → Hand c ts (set ls j w) bs m g
  hand-local j w m g lt frames one inside good absent =
      record {
        config = H.config;
        tree_words = H.tree_words;
        local_words = length-set ls j w ∙ H.local_words;
        bit_words = H.bit_words;
        free = H.free;
        class = H.class;
        one = λ i l. omega (arith, H.one i l, one i, holders-set c.tree_order i ls j w lt);
        sum = λ i l. omega (arith, H.sum i l, frames i, shares-set c.tree_order i ls j w lt);
        inside = λ k p. at-inside k p (ℕ_discrete k j);
        pair = λ k i lk li p. at_pair k i lk li p (ℕ_discrete (slot c.places k i) j);
        absent = λ k p. at-absent k p (ℕ_discrete k j);
        past = H.past;
      }
    where
      same : (k : ℕ) → k ≡ j → get_or (set ls j w) k 0 ≡ w
      same k d = ap (λ (x : ℕ). get_or (set ls j w) x 0) d ∙ get_or-set_same ls j w 0 lt

      other : (k : ℕ) → k ≢ j → get_or (set ls j w) k 0 ≡ get_or ls k 0
      other k d = get_or-set_other ls j k w 0 d

      at-inside : (k : ℕ) → (local_at (set ls j w) k).present ≡ true → Dec (k ≡ j) → tree_on c.tree_order (local_at (set ls j w) k) < trees_of c
      at-inside k p (yes d) = rw (same k d) (inside (rw (same k d) at p))
      at-inside k p (no d) = rw (other k d) (H.inside k (rw (other k d) at p))

      at_pair : (k i : ℕ) → k < 8 → i < locals_of c.places k → (local_at (set ls j w) (slot c.places k i)).present ≡ true → Dec (slot c.places k i ≡ j)
          → Good c k (entry_at ts (tree_on c.tree_order (local_at (set ls j w) (slot c.places k i)))).class
      at_pair k i lk li p (yes d) = rw (same (slot c.places k i) d) (good k i lk li d (rw (same (slot c.places k i) d) at p))
      at_pair k i lk li p (no d) = rw (other (slot c.places k i) d) (H.pair k i lk li (rw (other (slot c.places k i) d) at p))

      at-absent : (k : ℕ) → (local_at (set ls j w) k).present ≡ false → Dec (k ≡ j) → get_or (set ls j w) k 0 ≡ 0
      at-absent k p (yes d) = rw (same k d) (absent (rw (same k d) at p))
      at-absent k p (no d) = rw (other k d) (H.absent k (rw (other k d) at p))

  -- ---- a block of tree t marked
  module _ (o j t : ℕ) (b : Block bs o j) (within : Inside c.tree_order o t j) where
    -- no other tree changes
    others : (v : Bool) (i : ℕ) → i ≢ t → held (mark v bs o j) (i * tree_frames c.tree_order) (tree_frames c.tree_order) ≡ held bs (i * tree_frames c.tree_order) (tree_frames c.tree_order)
    others v i ne = by_side i t ne
        (λ l. count-below v bs _ _ _ (marked v bs o j b) (i * tree_frames c.tree_order) (tree_frames c.tree_order) (omega (arith, within.low, next-tree c.tree_order sz i t l)))
        (λ l. count-above v bs _ _ _ (marked v bs o j b) (i * tree_frames c.tree_order) (tree_frames c.tree_order) (omega (arith, within.high, next-tree c.tree_order sz t i l)))

    -- frames at and past F stay held
    past-marked : (v : Bool) → j * 2 ^ o + 2 ^ o ≤ c.frames → held (mark v bs o j) c.frames (length (mark v bs o j) * 64 - c.frames) ≡ length (mark v bs o j) * 64 - c.frames
    past-marked v l =
        let M = marked v bs o j b in
        rw (M.len, count-above v bs (mark v bs o j) (j * 2 ^ o) (2 ^ o) M c.frames (length bs * 64 - c.frames) l) H.past

    marked-with : (v : Bool) (m : ℕ → ℕ) → j * 2 ^ o + 2 ^ o ≤ c.frames
        → ((i : ℕ) → m i + held (mark v bs o j) (i * tree_frames c.tree_order) (tree_frames c.tree_order) ≡ n i + held bs (i * tree_frames c.tree_order) (tree_frames c.tree_order))
        → Hand c ts ls (mark v bs o j) m h
    marked-with v m l frames =
        record {
          config = H.config;
          tree_words = H.tree_words;
          local_words = H.local_words;
          bit_words = (marked v bs o j b).len ∙ H.bit_words;
          free = H.free;
          class = H.class;
          one = H.one;
          sum = λ i lt. omega (arith, H.sum i lt, frames i);
          inside = H.inside;
          pair = H.pair;
          absent = H.absent;
          past = past-marked v l;
        }

    -- a wholly free block held: its frames were in hand
    pub hand-hold : (m : ℕ → ℕ) → held_in bs o j ≡ 0 → ((i : ℕ) → n i ≡ m i + here t (2 ^ o) i) → Hand c ts ls (mark true bs o j) m h
    unfolding held_in
    hand-hold m e frames = marked-with true m (free-below bs o j c.frames b e H.past) (λ i. go i (ℕ_discrete i t))
      where
        M : Marked true bs (mark true bs o j) (j * 2 ^ o) (2 ^ o)
        M = marked true bs o j b

        go : (i : ℕ) → Dec (i ≡ t) → m i + held (mark true bs o j) (i * tree_frames c.tree_order) (tree_frames c.tree_order) ≡ n i + held bs (i * tree_frames c.tree_order) (tree_frames c.tree_order)
        go i (yes d) =
            let q : i * tree_frames c.tree_order ≡ t * tree_frames c.tree_order = ap (λ (x : ℕ). x * tree_frames c.tree_order) d in
            omega (arith, frames i, here-same t (2 ^ o) i d, e, count_held bs _ _ _ M, count-around true bs _ _ _ M (i * tree_frames c.tree_order) (tree_frames c.tree_order) (omega (arith, within.low, q)) (omega (arith, within.high, q)))
        go i (no d) = omega (arith, frames i, here-other t (2 ^ o) i d, others true i d)

    -- a wholly held block freed: its frames come to hand
    pub hand-free : (m : ℕ → ℕ) → held_in bs o j ≡ 2 ^ o → j * 2 ^ o + 2 ^ o ≤ c.frames → ((i : ℕ) → m i ≡ n i + here t (2 ^ o) i) → Hand c ts ls (mark false bs o j) m h
    unfolding held_in
    hand-free m e l frames = marked-with false m l (λ i. go i (ℕ_discrete i t))
      where
        M : Marked false bs (mark false bs o j) (j * 2 ^ o) (2 ^ o)
        M = marked false bs o j b

        go : (i : ℕ) → Dec (i ≡ t) → m i + held (mark false bs o j) (i * tree_frames c.tree_order) (tree_frames c.tree_order) ≡ n i + held bs (i * tree_frames c.tree_order) (tree_frames c.tree_order)
        go i (yes d) =
            let q : i * tree_frames c.tree_order ≡ t * tree_frames c.tree_order = ap (λ (x : ℕ). x * tree_frames c.tree_order) d in
            omega (arith, frames i, here-same t (2 ^ o) i d, e, count-free bs _ _ _ M, count-around false bs _ _ _ M (i * tree_frames c.tree_order) (tree_frames c.tree_order) (omega (arith, within.low, q)) (omega (arith, within.high, q)))
        go i (no d) = omega (arith, frames i, here-other t (2 ^ o) i d, others false i d)
