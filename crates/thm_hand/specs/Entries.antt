-- Moves of an entry: frames stolen, put back, all of them synced; a reservation made and returned. Assumes nothing.
use Rattle.std.specs.Prelude.{◌≡◌, refl, Bool, List, ℕ, ◌+◌, ◌-◌, ◌<◌, ◌≤◌, eqb, set}
use Rattle.std.proofs.Common.{ap, arith}
use Rattle.std.proofs.Math.Bool.{true, false}
use Rattle.rules.specs.Base.{pick, bit_of}
use Rattle.rules.specs.Words.{Config, tree_frames, trees_of, tree_word, entry, entry_at}
use Rattle.rules.specs.Policy.{policy, kind_at, Configured, Good}
use Rattle.rules.specs.Entries.{if_full, class_after, put_of, entry_put}
use Rattle.rules.specs.declared.Kind.{Kind}
use Rattle.rules.specs.declared.Kind.TheVariants.{Invalid, Steal, Demote, Match}
use Rattle.thm_hand.specs.Hand.{here, holders, Hand}
use Rattle.law_rules.specs.Sizes.{Size}
use Rattle.law_rules.specs.RoundTrips.{bit-true, bit_of-le}
use Rattle.law_rules.specs.Kinds.{steal-kind, demote-kind, match-kind}
use Rattle.law_rules.specs.Accepted.{accepted-says, back-good}
use Rattle.thm_hand.specs.Here.{here-same, here-zero, here-add, here-part}
use Rattle.thm_hand.specs.Moves.{hand-entry}

-- the class after an entry put is the entry's, or the default if the pair with it is not Invalid
pub class-after : (P : ℕ → Type 0) (c : Config) (k free : ℕ) → P k → (0 < kind_at c k c.default → P c.default)
    → P (class_after c.tree_order c.default k free (policy c k c.default free))
unfolding class_after if_full
class-after P c k free own dflt = go (policy c k c.default free) refl
  where
    full : (b : Bool) → (0 < kind_at c k c.default) → P (pick b c.default k)
    full true g = dflt g
    full false g = own

    go : (d : Kind) → policy c k c.default free ≡ d → P (class_after c.tree_order c.default k free d)
    go Invalid r = own
    go Steal r = full (eqb free (tree_frames c.tree_order)) (omega (arith, steal-kind c k c.default free r))
    go Demote r = full (eqb free (tree_frames c.tree_order)) (omega (arith, demote-kind c k c.default free r))
    go (Match v) r = full (eqb free (tree_frames c.tree_order)) (omega (arith, match-kind c k c.default free v r))

module _ (c : Config) (sz : Size c.tree_order) (ts ls bs : List ℕ) (n h : ℕ → ℕ) (H : Hand c ts ls bs n h) (t : ℕ) (lt : t < trees_of c) where
  -- a reservation in hand: the entry is reserved, and no local holds the tree
  pub hand-reserved : 0 < h t → (entry_at ts t).reserved ≡ true
  hand-reserved pos = bit-true (entry_at ts t).reserved (omega (arith, H.one t lt, bit_of-le (entry_at ts t).reserved))

  pub hand-alone : 0 < h t → holders c.tree_order t ls ≡ 0
  hand-alone pos = omega (arith, H.one t lt, bit_of-le (entry_at ts t).reserved)

  -- an unreserved entry has no holder
  pub free-alone : (entry_at ts t).reserved ≡ false → holders c.tree_order t ls ≡ 0
  free-alone r = let e : bit_of (entry_at ts t).reserved ≡ 0 = ap bit_of r in omega (arith, H.one t lt)

  -- what is in hand fits into the entry
  pub hand-room : (entry_at ts t).free + n t ≤ tree_frames c.tree_order
  hand-room = omega (arith, H.sum t lt)

  -- ---- frames in hand put to the entry
  pub hand-put : (k : ℕ) (m : ℕ → ℕ) → ((i : ℕ) → n i ≡ m i + here t k i) → Hand c (entry_put c ts t k) ls bs m h
  unfolding entry_put put_of
  hand-put k m frames =
      hand-entry c sz ts ls bs n h H t (put_of c (entry_at ts t) k) m h lt
      (omega (arith, hand-room, frames t, here-same t k t refl))
      (class-after (Configured c) c (entry_at ts t).class ((entry_at ts t).free + k) (H.class t lt) (λ _. (accepted-says c H.config).default))
      (λ i. omega (arith, frames i, here-add t (entry_at ts t).free k i))
      (λ i. refl)
      (λ o lo pos g.
      class-after (Good c o) c (entry_at ts t).class ((entry_at ts t).free + k) g (λ p. back-good c (accepted-says c H.config) o (entry_at ts t).class lo (H.class t lt).0 g p))

  -- ---- frames of an unreserved entry taken in hand; the entry's class may change
  pub hand-steal : (k x : ℕ) (m : ℕ → ℕ) → (entry_at ts t).reserved ≡ false → k ≤ (entry_at ts t).free → Configured c x → ((i : ℕ) → m i ≡ n i + here t k i)
      → Hand c (set ts t (tree_word (entry ((entry_at ts t).free - k) false x))) ls bs m h
  hand-steal k x m r le conf frames =
      hand-entry c sz ts ls bs n h H t (entry ((entry_at ts t).free - k) false x) m h lt
      (omega (arith, H.free t lt))
      conf
      (λ i. omega (arith, frames i, here-part t ((entry_at ts t).free - k) k (entry_at ts t).free i (omega arith)))
      (λ i. rw r)
      (λ o lo pos g. absurd (omega (arith, free-alone r)))

  -- ---- an unreserved entry reserved for class k: all its frames and the reservation are in hand
  pub hand-reserve : (k : ℕ) (m g : ℕ → ℕ) → (entry_at ts t).reserved ≡ false → Configured c k → ((i : ℕ) → m i ≡ n i + here t (entry_at ts t).free i) → ((i : ℕ) → g i ≡ h i + here t 1 i)
      → Hand c (set ts t (tree_word (entry 0 true k))) ls bs m g
  hand-reserve k m g r conf frames one =
      hand-entry c sz ts ls bs n h H t (entry 0 true k) m g lt
      (omega arith)
      conf
      (λ i. omega (arith, frames i, here-zero t i))
      (λ i. rw r (omega (arith, one i, here-zero t i)))
      (λ o lo pos g. absurd (omega (arith, free-alone r)))

  -- ---- all frames of a reserved entry taken in hand
  pub hand-sync : (m : ℕ → ℕ) → (entry_at ts t).reserved ≡ true → ((i : ℕ) → m i ≡ n i + here t (entry_at ts t).free i)
      → Hand c (set ts t (tree_word (entry 0 true (entry_at ts t).class))) ls bs m h
  hand-sync m r frames =
      hand-entry c sz ts ls bs n h H t (entry 0 true (entry_at ts t).class) m h lt
      (omega arith)
      (H.class t lt)
      (λ i. omega (arith, frames i, here-zero t i))
      (λ i. rw r)
      (λ o lo pos g. g)

  -- ---- a reservation in hand returned with k frames; x is the class before the entry put
  pub hand-back : (k x : ℕ) (m g : ℕ → ℕ) → Configured c x → ((i : ℕ) → n i ≡ m i + here t k i) → ((i : ℕ) → h i ≡ g i + here t 1 i)
      → Hand c (set ts t (tree_word (put_of c (entry (entry_at ts t).free false x) k))) ls bs m g
  unfolding put_of
  hand-back k x m g conf frames one =
      let pos : 0 < h t = omega (arith, one t, here-same t 1 t refl) in
      let r : (entry_at ts t).reserved ≡ true = hand-reserved pos in
      hand-entry c sz ts ls bs n h H t (put_of c (entry (entry_at ts t).free false x) k) m g lt
      (omega (arith, hand-room, frames t, here-same t k t refl))
      (class-after (Configured c) c x ((entry_at ts t).free + k) conf (λ _. (accepted-says c H.config).default))
      (λ i. omega (arith, frames i, here-add t (entry_at ts t).free k i))
      (λ i. rw r (omega (arith, one i, here-zero t i)))
      (λ o lo p q. absurd (omega (arith, hand-alone pos)))
