-- Moves of a local: frames taken and filled in, another row, a reservation taken out and put in. Assumes nothing.
use Rattle.std.specs.Prelude.{◌≡◌, refl, true, false, List, ℕ, ◌+◌, ◌-◌, ◌/◌, ◌^◌, ◌<◌, ◌≤◌, length, get_or, set}
use Rattle.std.proofs.Common.{sym, ap, ◌∙◌, subst, arith, get_or-set_same}
use Rattle.rules.specs.Words.{Config, tree_frames, tree_rows, trees_of, locals_of, slot, local_of, local_word, entry_at, local_at}
use Rattle.rules.specs.Policy.{Good}
use Rattle.rules.specs.Locals.{reservation, local_row}
use Rattle.rules_calls.specs.Standing.{tree_on}
use Rattle.thm_hand.specs.Hand.{here, share, holds, Hand}
use Rattle.law_rules.specs.Sizes.{Size, frames-le}
use Rattle.law_rules.specs.RoundTrips.{local-word, absent-word, row_lt, present-lt}
use Rattle.law_rules.specs.Slots.{slot_lt, slot-class}
use Rattle.thm_hand.specs.Here.{here-add, here-part, share-here, holds-here, share-none, holds-none, on-shares}
use Rattle.thm_hand.specs.Moves.{hand-local}

-- a stored reservation, read again
pub load_same : (ls : List ℕ) (j row free : ℕ) → j < length ls → row < 2 ^ 44 → free < 2 ^ 19 → local_at (set ls j (local_word (reservation row free))) j ≡ reservation row free
load_same ls j row free lt hr hf = ap local_of (get_or-set_same ls j (local_word (reservation row free)) 0 lt) ∙ local-word row free hr hf

module _ (c : Config) (sz : Size c.tree_order) (ts ls bs : List ℕ) (n h : ℕ → ℕ) (H : Hand c ts ls bs n h) where
  -- ---- a reservation stored in slot j
  pub hand-store : (j row free : ℕ) (m g : ℕ → ℕ) → j < length ls → row < 2 ^ 44 → free < 2 ^ 19 → row / tree_rows c.tree_order < trees_of c
      → ((k i : ℕ) → k < 8 → i < locals_of c.places k → slot c.places k i ≡ j → Good c k (entry_at ts (row / tree_rows c.tree_order)).class)
      → ((i : ℕ) → here (row / tree_rows c.tree_order) free i + m i ≡ share c.tree_order (local_at ls j) i + n i)
      → ((i : ℕ) → here (row / tree_rows c.tree_order) 1 i + g i ≡ holds c.tree_order (local_at ls j) i + h i)
      → Hand c ts (set ls j (local_word (reservation row free))) bs m g
  hand-store j row free m g lt hr hf inside good frames one =
      let e : local_of (local_word (reservation row free)) ≡ reservation row free = local-word row free hr hf in
      hand-local c sz ts ls bs n h H j (local_word (reservation row free)) m g lt
      (λ i. rw (e, share-here c.tree_order (reservation row free) i refl) (frames i))
      (λ i. rw (e, holds-here c.tree_order (reservation row free) i refl) (one i))
      (λ _. rw e inside)
      (λ k i lk li d _. rw e (good k i lk li d))
      (λ p. absurd (let q : true ≡ false = rw e at p in let y : ◌≡◌ {A = ℕ} 0 1 = cc in omega arith))

  -- ---- a local made absent: its frames and its reservation are in hand
  pub hand-clear : (j : ℕ) (m g : ℕ → ℕ) → j < length ls → ((i : ℕ) → m i ≡ share c.tree_order (local_at ls j) i + n i) → ((i : ℕ) → g i ≡ holds c.tree_order (local_at ls j) i + h i)
      → Hand c ts (set ls j 0) bs m g
  hand-clear j m g lt frames one =
      hand-local c sz ts ls bs n h H j 0 m g lt
      (λ i. omega (arith, frames i, share-none c.tree_order (local_of 0) i absent-word))
      (λ i. omega (arith, one i, holds-none c.tree_order (local_of 0) i absent-word))
      (λ p. absurd (let q : false ≡ true = sym absent-word ∙ p in let y : ◌≡◌ {A = ℕ} 0 1 = cc in omega arith))
      (λ k i lk li d p. absurd (let q : false ≡ true = sym absent-word ∙ p in let y : ◌≡◌ {A = ℕ} 0 1 = cc in omega arith))
      (λ p. refl)

  -- ---- a present local keeps its tree
  module _ (j : ℕ) (p : (local_at ls j).present ≡ true) where
    -- its frames and those in hand of its tree are of one tree
    pub local-room : (local_at ls j).free + n (tree_on c.tree_order (local_at ls j)) ≤ tree_frames c.tree_order
    local-room = omega (arith, H.sum (tree_on c.tree_order (local_at ls j)) (H.inside j p), on-shares c.tree_order (tree_on c.tree_order (local_at ls j)) ls j p refl)

    pub hand-keep : (row free : ℕ) (m : ℕ → ℕ) → row < 2 ^ 44 → free < 2 ^ 19 → row / tree_rows c.tree_order ≡ tree_on c.tree_order (local_at ls j)
        → ((i : ℕ) → here (tree_on c.tree_order (local_at ls j)) free i + m i ≡ here (tree_on c.tree_order (local_at ls j)) (local_at ls j).free i + n i)
        → Hand c ts (set ls j (local_word (reservation row free))) bs m h
    hand-keep row free m hr hf same frames =
        hand-store j row free m h (present-lt ls j p) hr hf (rw same (H.inside j p))
        (λ k i lk li d. rw same (subst (λ (x : ℕ). Good c k (entry_at ts (tree_on c.tree_order (local_at ls x))).class) d (H.pair k i lk li (subst (λ (x : ℕ). (local_at ls x).present ≡ true) (sym d) p))))
        (λ i. rw (same, share-here c.tree_order (local_at ls j) i p) (frames i))
        (λ i. rw (same, holds-here c.tree_order (local_at ls j) i p))

    -- ---- frames of a local taken in hand
    pub hand-take : (k : ℕ) (m : ℕ → ℕ) → k ≤ (local_at ls j).free → ((i : ℕ) → m i ≡ n i + here (tree_on c.tree_order (local_at ls j)) k i)
        → Hand c ts (set ls j (local_word (reservation (local_at ls j).row ((local_at ls j).free - k)))) bs m h
    hand-take k m le frames =
        hand-keep (local_at ls j).row ((local_at ls j).free - k) m (row_lt (get_or ls j 0)) (omega (arith, local-room, frames-le c.tree_order sz)) refl
        (λ i. omega (arith, frames i, here-part (tree_on c.tree_order (local_at ls j)) ((local_at ls j).free - k) k (local_at ls j).free i (omega arith)))

    -- ---- frames in hand of its tree put to a local
    pub hand-fill : (k : ℕ) (m : ℕ → ℕ) → k ≤ n (tree_on c.tree_order (local_at ls j)) → ((i : ℕ) → n i ≡ m i + here (tree_on c.tree_order (local_at ls j)) k i)
        → Hand c ts (set ls j (local_word (reservation (local_at ls j).row ((local_at ls j).free + k)))) bs m h
    hand-fill k m le frames =
        hand-keep (local_at ls j).row ((local_at ls j).free + k) m (row_lt (get_or ls j 0)) (omega (arith, local-room, frames-le c.tree_order sz)) refl
        (λ i. omega (arith, frames i, here-add (tree_on c.tree_order (local_at ls j)) (local_at ls j).free k i))

    -- ---- another row of the same tree
    pub hand-row : (row : ℕ) → row < 2 ^ 44 → row / tree_rows c.tree_order ≡ tree_on c.tree_order (local_at ls j) → Hand c ts (local_row ls j row) bs n h
    unfolding local_row
    hand-row row hr same = rw p (hand-keep row (local_at ls j).free n hr (omega (arith, local-room, frames-le c.tree_order sz)) same (λ i. refl))

  -- ---- a reservation in hand stored in the slot of class k, index x; the one that stood there comes to hand
  pub hand-swap : (k x row free : ℕ) (m g : ℕ → ℕ) → k < 8 → x < locals_of c.places k → row < 2 ^ 44 → free < 2 ^ 19 → row / tree_rows c.tree_order < trees_of c
      → Good c k (entry_at ts (row / tree_rows c.tree_order)).class
      → ((i : ℕ) → here (row / tree_rows c.tree_order) free i + m i ≡ share c.tree_order (local_at ls (slot c.places k x)) i + n i)
      → ((i : ℕ) → here (row / tree_rows c.tree_order) 1 i + g i ≡ holds c.tree_order (local_at ls (slot c.places k x)) i + h i)
      → Hand c ts (set ls (slot c.places k x) (local_word (reservation row free))) bs m g
  hand-swap k x row free m g lk lx hr hf inside good frames one =
      hand-store (slot c.places k x) row free m g (omega (arith, H.local_words, slot_lt c.places k x lk lx)) hr hf inside
      (λ o i lo li d. subst (λ (y : ℕ). Good c y (entry_at ts (row / tree_rows c.tree_order)).class) (sym (slot-class c.places o i k x li lx d)) good)
      frames one
