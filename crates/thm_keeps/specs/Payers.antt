-- Steal from locals and demote leave the rules standing. Assumes nothing.
use Rattle.std.specs.Prelude.{◌≡◌, refl, true, get_or, Option, Some, None}
use Rattle.std.proofs.Math.Path.{sym, subst}
use Rattle.std.proofs.Common.{◌∙◌, arith}
use mathlib.Core.List.{List}
use Prim.Native.Nat.{ℕ, ◌+◌, ◌-◌, ◌/◌, ◌^◌, ◌<◌}
use Rattle.std.proofs.Math.ListN.{set, length-set}
use Rattle.rules.specs.Words.{Config, tree_rows, trees_of, slot, local_word, entry_at, local_at}
use Rattle.rules.specs.Policy.{policy, kind_at, Configured, Good}
use Rattle.rules.specs.Locals.{reservation, in_tree, may_pay, may_move, steal_any, demote_any, paying}
use Rattle.rules.specs.declared.Local.{Local}
use Rattle.rules.specs.declared.Request.{Request}
use Rattle.rules.specs.declared.Payer.{Payer}
use Rattle.rules_calls.specs.State.{State, size, index_of, missed, with_trees, with_locals}
use Rattle.rules_calls.specs.Standing.{tree_on}
use Rattle.rules_calls.specs.FromLocals.{pay_from, steal_local, demote_to, move_from, demote_local}
use Rattle.law_rules.specs.Sizes.{Size, frames-le}
use Rattle.law_rules.specs.RoundTrips.{row_lt, present-lt}
use Rattle.law_rules.specs.Kinds.{policy-number}
use Rattle.law_rules.specs.Accepted.{accepted-says, down-good}
use Rattle.thm_hand.specs.Hand.{here, share, holds, nothing, Hand, Kept}
use Rattle.law_calls.specs.Steps.{held-ind, swap-ind, clear-ind}
use Rattle.law_calls.specs.Payers.{Pays, payer-ind, move-kind}
use Rattle.law_calls.specs.Checked.{LocalIn}
use Rattle.thm_hand.specs.Here.{share-here, holds-here}
use Rattle.thm_hand.specs.Moves.{hand-same}
use Rattle.thm_hand.specs.Locals.{load_same, local-room, hand-take, hand-clear, hand-swap}
use Rattle.thm_keeps.specs.Fine.{Fine, Asks, in-sought, ask_lower-fine, back-ind}
use Rattle.thm_keeps.specs.Reserves.{returned-ind}

module _ (c : Config) (sz : Size c.tree_order) (q : Request) (name : Option ℕ) (A : Asks c q name) where
  -- ---- steal from locals
  pay_from-fine : (s : State) → Kept c s.trees s.locals s.bits → (e j : ℕ) → Configured c e → Fine c q.order name s.bits (pay_from c q name (Some (paying e j)) s)
  unfolding pay_from missed with_locals
  pay_from-fine s K e j conf =
      held-ind (Fine c q.order name s.bits) s c.tree_order j name (size q) _ _ _
      (λ p it le.
      let l : Local = local_at s.locals j in
      let t : ℕ = l.row / tree_rows c.tree_order in
      ask_lower-fine c sz q name A (with_locals s (set s.locals j (local_word (reservation l.row (l.free - size q))))) t l.row e
      (hand-take c sz s.trees s.locals s.bits nothing nothing K j p (size q) (here t (size q)) le (λ i. omega arith)) (K.inside j p) (in-sought c.tree_order l.row name it) conf)
      (λ p _. (K, refl))
      (λ p. (K, refl))

  pub steal_local-fine : (s : State) → Kept c s.trees s.locals s.bits → Fine c q.order name s.bits (steal_local c q name s)
  unfolding steal_local steal_any pay_from missed
  steal_local-fine s K =
      payer-ind may_pay c s.locals q.class (index_of q.local) name (size q) (λ (x : Option Payer). Fine c q.order name s.bits (pay_from c q name x s))
      (K, refl) (λ e j P. pay_from-fine s K e j P.class) 8 0

  -- ---- demote: the reservation (row, free) is in hand, and the frames asked for
  module _ (row free : ℕ) (hr : row < 2 ^ 44) (hf : free < 2 ^ 19) (lt : row / tree_rows c.tree_order < trees_of c) (it : in_tree c.tree_order row name ≡ true) where
    demote_to-fine : (g : Option ℕ) → LocalIn c q.class g → (s : State)
        → Hand c s.trees s.locals s.bits (λ i. here (row / tree_rows c.tree_order) free i + here (row / tree_rows c.tree_order) (size q) i) (here (row / tree_rows c.tree_order) 1)
        → Good c q.class (entry_at s.trees (row / tree_rows c.tree_order)).class
        → Fine c q.order name s.bits (demote_to c q name (reservation row free) g s)
    unfolding demote_to with_trees with_locals
    demote_to-fine (Some x) lx s H good =
        let t : ℕ = row / tree_rows c.tree_order in
        let j : ℕ = slot c.places q.class x in
        let old : Local = local_at s.locals j in
        let H1 : Hand c s.trees (set s.locals j (local_word (reservation row free))) s.bits (λ i. share c.tree_order old i + here t (size q) i) (λ i. holds c.tree_order old i) =
        hand-swap c sz s.trees s.locals s.bits (λ i. here t free i + here t (size q) i) (here t 1) H q.class x row free (λ i. share c.tree_order old i + here t (size q) i) (λ i. holds c.tree_order old i)
        A.class.0 lx hr hf lt good (λ i. omega arith) (λ i. omega arith) in
        swap-ind (Fine c q.order name s.bits) s j (reservation row free) _
        (returned-ind (Fine c q.order name s.bits) c sz _ old q.class (here t (size q)) H1 _ _ A.class
        (λ p. (H.inside j p, H.pair q.class x A.class.0 lx p))
        (λ ts H2. ask_lower-fine c sz q name A _ t row q.class H2 lt (in-sought c.tree_order row name it) A.class))
    demote_to-fine None lx s H good =
        let t : ℕ = row / tree_rows c.tree_order in
        back-ind (Fine c q.order name s.bits) c sz s (λ i. here t free i + here t (size q) i) (here t 1) H t q.class free (here t (size q)) nothing _ _ lt A.class good
        (λ i. omega arith) (λ i. omega arith)
        (λ ts H1. ask_lower-fine c sz q name A (with_trees s ts) t row q.class H1 lt (in-sought c.tree_order row name it) A.class)

  move_from-fine : (s : State) → Kept c s.trees s.locals s.bits → (e j : ℕ) → Pays may_move c s.locals q.class name (size q) e j
      → Fine c q.order name s.bits (move_from c q name (Some (paying e j)) s)
  unfolding move_from missed with_locals
  move_from-fine s K e j P =
      held-ind (Fine c q.order name s.bits) s c.tree_order j name (size q) _ _ _
      (λ p it le.
      let l : Local = local_at s.locals j in
      let t : ℕ = l.row / tree_rows c.tree_order in
      let ls : List ℕ = set s.locals j (local_word (reservation l.row (l.free - size q))) in
      let few : l.free - size q < 2 ^ 19 = omega (arith, local-room c sz s.trees s.locals s.bits nothing nothing K j p, frames-le c.tree_order sz) in
      let is : local_at ls j ≡ reservation l.row (l.free - size q) = load_same s.locals j l.row (l.free - size q) (present-lt s.locals j p) (row_lt (get_or s.locals j 0)) few in
      let K1 : Hand c s.trees ls s.bits (here t (size q)) nothing = hand-take c sz s.trees s.locals s.bits nothing nothing K j p (size q) (here t (size q)) le (λ i. omega arith) in
      let K2 : Hand c s.trees (set ls j 0) s.bits (λ i. share c.tree_order (local_at ls j) i + here t (size q) i) (λ i. holds c.tree_order (local_at ls j) i + 0) =
      hand-clear c sz s.trees ls s.bits (here t (size q)) nothing K1 j (λ i. share c.tree_order (local_at ls j) i + here t (size q) i) (λ i. holds c.tree_order (local_at ls j) i + 0)
      (rw length-set (present-lt s.locals j p)) (λ i. refl) (λ i. refl) in
      let K3 : Hand c s.trees (set ls j 0) s.bits (λ i. here t (l.free - size q) i + here t (size q) i) (here t 1) =
      hand-same c sz s.trees (set ls j 0) s.bits _ _ K2 (λ i. here t (l.free - size q) i + here t (size q) i) (here t 1)
      (λ i. rw is (omega (arith, share-here c.tree_order (reservation l.row (l.free - size q)) i refl)))
      (λ i. rw is (omega (arith, holds-here c.tree_order (reservation l.row (l.free - size q)) i refl))) in
      let own : Good c e (entry_at s.trees t).class =
      subst (λ (x : ℕ). Good c e (entry_at s.trees (tree_on c.tree_order (local_at s.locals x))).class) (sym P.is)
      (K.pair e P.index P.class.0 P.index_lt (subst (λ (x : ℕ). (local_at s.locals x).present ≡ true) P.is p)) in
      let kind : kind_at c q.class e ≡ 2 = sym (policy-number c q.class e (size q)) ∙ move-kind (policy c q.class e (size q)) P.passes in
      let good : Good c q.class (entry_at s.trees t).class =
      down-good c (accepted-says c K.config) e (entry_at s.trees t).class q.class P.class.0 (K.class t (K.inside j p)).0 A.class.0 own kind in
      clear-ind (Fine c q.order name s.bits) (with_locals s ls) j _
      (subst (λ (x : Local). Fine c q.order name s.bits (demote_to c q name x q.local (with_locals s (set ls j 0)))) (sym is)
      (demote_to-fine l.row (l.free - size q) (row_lt (get_or s.locals j 0)) few (K.inside j p) it q.local A.local (with_locals s (set ls j 0)) K3 good)))
      (λ p _. (K, refl))
      (λ p. (K, refl))

  pub demote_local-fine : (s : State) → Kept c s.trees s.locals s.bits → Fine c q.order name s.bits (demote_local c q name s)
  unfolding demote_local demote_any move_from missed
  demote_local-fine s K =
      payer-ind may_move c s.locals q.class (index_of q.local) name (size q) (λ (x : Option Payer). Fine c q.order name s.bits (move_from c q name x s))
      (K, refl) (λ e j P. move_from-fine s K e j P) 7 1
