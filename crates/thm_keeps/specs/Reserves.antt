-- Reserve or steal leaves the rules standing: a reservation stored, the one it replaces returned; or undone. Assumes nothing.
use Rattle.std.specs.Prelude.{◌≡◌, set, None}
use Rattle.std.proofs.Math.Path.{refl, sym}
use Rattle.std.proofs.Common.{ap, ◌∙◌, arith, get_or-set_same}
use Rattle.std.proofs.Math.Bool.{true, false}
use mathlib.Core.List.{List}
use Prim.Native.Nat.{ℕ, ◌+◌, ◌-◌, ◌*◌, ◌/◌, ◌^◌, ◌<◌, ◌≤◌}
use Rattle.rules.specs.Words.{Config, tree_rows, trees_of, locals_of, slot, tree_of, tree_word, local_word, entry, entry_at, local_at}
use Rattle.rules.specs.Policy.{Configured, Good}
use Rattle.rules.specs.Locals.{reservation}
use Rattle.rules.specs.Lower.{mark}
use Rattle.rules.specs.declared.Local.{Local}
use Rattle.rules.specs.declared.Tree.{Tree}
use Rattle.rules.specs.declared.Request.{Request}
use Rattle.rules_calls.specs.State.{State, size, done, missed, with_trees, with_locals, with_try, unreserve_local}
use Rattle.rules_calls.specs.Standing.{tree_on}
use Rattle.rules_calls.specs.Walking.{reserved_tree, reserve_or_steal}
use Rattle.law_rules.specs.Sizes.{Size, frames-le, first-row, first_small}
use Rattle.law_rules.specs.RoundTrips.{tree-word}
use Rattle.law_rules.specs.Accepted.{accepted-says, own-good, trees-most}
use Rattle.thm_hand.specs.Hand.{here, share, holds, nothing, Hand, Kept}
use Rattle.law_calls.specs.Steps.{found-ind, swap-ind, unreserve_local-ind, reserve-ind}
use Rattle.thm_hand.specs.Here.{here-same, here-part, share-here, holds-here, share-none, holds-none}
use Rattle.thm_hand.specs.Moves.{hand-same}
use Rattle.thm_hand.specs.Entries.{hand-steal, hand-reserve}
use Rattle.thm_hand.specs.Locals.{hand-swap}
use Rattle.thm_keeps.specs.Fine.{Fine, Asks, ask_lower-fine, back-ind, found-hold, found-granted}

-- the reservation of a local of class k that stands in no word any more is returned, if there is one; then nothing but n is in hand
module _ {A : Type 0} (Q : A → Type 0) (c : Config) (sz : Size c.tree_order) (s : State) (l : Local) (k : ℕ) (n : ℕ → ℕ)
    (H : Hand c s.trees s.locals s.bits (λ i. share c.tree_order l i + n i) (λ i. holds c.tree_order l i)) where
  pub returned-ind : (y fails : State → A) → Configured c k → (l.present ≡ true → (tree_on c.tree_order l < trees_of c) × Good c k (entry_at s.trees (tree_on c.tree_order l)).class)
      → ((ts : List ℕ) → Hand c ts s.locals s.bits n nothing → Q (y (with_trees s ts)))
      → Q (unreserve_local c l k s y fails)
  unfolding with_trees
  returned-ind y fails conf there next =
      unreserve_local-ind Q s c l k y fails
      (λ p. back-ind Q c sz s (λ i. share c.tree_order l i + n i) (λ i. holds c.tree_order l i) H (tree_on c.tree_order l) k l.free n nothing y fails (there p).0 conf (there p).1
      (λ i. omega (arith, share-here c.tree_order l i p)) (λ i. omega (arith, holds-here c.tree_order l i p)) next)
      (λ p. next s.trees (hand-same c sz s.trees s.locals s.bits (λ i. share c.tree_order l i + n i) (λ i. holds c.tree_order l i) H n nothing
      (λ i. omega (arith, share-none c.tree_order l i p)) (λ i. omega (arith, holds-none c.tree_order l i p))))

module _ (c : Config) (sz : Size c.tree_order) (q : Request) (A : Asks c q None) (x : ℕ) (lx : x < locals_of c.places q.class) where
  -- tree t was just reserved for the request's class: its old frames and the reservation are in hand
  reserved-fine : (t old : ℕ) (s : State) → Hand c s.trees s.locals s.bits (here t old) (here t 1) → t < trees_of c → size q ≤ old → (entry_at s.trees t).class ≡ q.class
      → Fine c q.order None s.bits (reserved_tree c q (slot c.places q.class x) t old s)
  unfolding reserved_tree done missed with_trees with_locals with_try
  reserved-fine t old s H lt le cl =
      let self : Good c q.class (entry_at s.trees t).class = rw cl (own-good c (accepted-says c H.config) q.class A.class) in
      let row : ℕ = t * tree_rows c.tree_order in
      let on : t * tree_rows c.tree_order / tree_rows c.tree_order ≡ t = first-row c.tree_order sz t in
      let few : t < 1024 = omega (arith, lt, trees-most c (accepted-says c H.config)) in
      let j : ℕ = slot c.places q.class x in
      found-ind (Fine c q.order None s.bits) s c.tree_order row q.order None _ _ sz.least sz.most A.order
      (λ b N.
      let bs : List ℕ = mark true s.bits q.order b in
      let l : Local = local_at s.locals j in
      let H1 : Hand c s.trees s.locals bs (here t (old - size q)) (here t 1) =
      found-hold c sz q None A s (here t old) (here t 1) H row t on b N (here t (old - size q)) (λ i. sym (here-part t (old - size q) (size q) old i (omega arith))) in
      let small : old - size q < 2 ^ 19 = omega (arith, H.sum t lt, here-same t old t refl, frames-le c.tree_order sz) in
      let H2 : Hand c s.trees (set s.locals j (local_word (reservation row (old - size q)))) bs (λ i. share c.tree_order l i + 0) (λ i. holds c.tree_order l i) =
      hand-swap c sz s.trees s.locals bs (here t (old - size q)) (here t 1) H1 q.class x row (old - size q) (λ i. share c.tree_order l i + 0) (λ i. holds c.tree_order l i) A.class.0 lx
      (first_small c.tree_order sz t few) small (rw on lt) (rw on self) (λ i. rw on (omega arith)) (λ i. rw on (omega arith)) in
      swap-ind (Fine c q.order None s.bits) _ j _ _
      (returned-ind (Fine c q.order None s.bits) c sz _ l q.class nothing H2 _ _ A.class
      (λ p. (H.inside j p, H.pair q.class x A.class.0 lx p))
      (λ ts H3. (H3, found-granted c sz q None A s (here t old) (here t 1) H row t on b N q.class A.class))))
      (λ _. back-ind (Fine c q.order None s.bits) c sz _ (here t old) (here t 1) H t q.class old nothing nothing _ _ lt A.class self (λ i. omega arith) (λ i. omega arith) (λ ts H1. (H1, refl)))

  pub reserve_or_steal-fine : (t : ℕ) → t < trees_of c → (s : State) → Kept c s.trees s.locals s.bits → Fine c q.order None s.bits (reserve_or_steal c q (slot c.places q.class x) t s)
  unfolding reserve_or_steal missed with_trees
  reserve_or_steal-fine t lt s K =
      reserve-ind (Fine c q.order None s.bits) s c t q.class (size q) _ _ _
      (λ r le _.
      let k : ℕ = (entry_at s.trees t).class in
      ask_lower-fine c sz q None A (with_trees s (set s.trees t (tree_word (entry ((entry_at s.trees t).free - size q) false k)))) t (t * tree_rows c.tree_order) k
      (hand-steal c sz s.trees s.locals s.bits nothing nothing K t lt (size q) k (here t (size q)) r le (K.class t lt) (λ i. omega arith)) lt (first-row c.tree_order sz t) (K.class t lt))
      (λ r le _.
      let old : ℕ = (entry_at s.trees t).free in
      reserved-fine t old (with_trees s (set s.trees t (tree_word (entry 0 true q.class))))
      (hand-reserve c sz s.trees s.locals s.bits nothing nothing K t lt q.class (here t old) (here t 1) r A.class (λ i. omega arith) (λ i. omega arith)) lt le
      (ap (λ (e : Tree). e.class) (ap tree_of (get_or-set_same s.trees t (tree_word (entry 0 true q.class)) 0 (omega (arith, lt, K.tree_words))) ∙ tree-word 0 true q.class (omega arith) A.class.0)))
      (λ _. (K, refl))
