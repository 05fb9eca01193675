-- Steal from locals and demote give one frame exactly if a local of a class that lends has one. Assumes nothing.
use Rattle.std.specs.Prelude.{◌≡◌, Bool, true, ◌≢◌, ◌⊎◌, List, get_or, set, Option, Some, None}
use Rattle.std.proofs.Math.Path.{refl, sym, subst}
use Rattle.std.proofs.Common.{◌∙◌, mod-lt}
use Rattle.std.proofs.Math.Bool.{false}
use Rattle.std.proofs.Math.Logic.{inl, inr}
use Prim.Native.Nat.{ℕ, zero, suc, ◌+◌, ◌-◌, ◌/◌, ◌%◌, ◌<◌, ◌≤◌}
use native.Mathlib.Omega.{arith}
use Rattle.std.proofs.Math.Dec.{leb}
use borrow.Author.Tests.{leb-false}
use Rattle.rules.specs.Words.{Config, tree_rows, trees_of, configured, locals_of, slot, local_word, local_at}
use Rattle.rules.specs.Policy.{policy, kind_at}
use Rattle.rules.specs.Locals.{reservation, in_tree, has_enough, may_pay, may_move, steal_any, demote_any, paying}
use Rattle.rules.specs.Lower.{clear}
use Rattle.rules.specs.declared.Local.{Local}
use Rattle.rules.specs.declared.Kind.{Kind}
use Rattle.rules.specs.declared.Request.{Request}
use Rattle.rules.specs.declared.Payer.{Payer}
use Rattle.rules_calls.specs.State.{State, st, size, index_of, missed, stuck, with_trees, with_locals}
use Rattle.rules_calls.specs.Standing.{tree_on}
use Rattle.rules_calls.specs.FromLocals.{pay_from, steal_local, demote_to, move_from, demote_local}
use Rattle.law_rules.specs.Sizes.{Size, frames-le}
use Rattle.law_rules.specs.RoundTrips.{row_lt, present-lt}
use Rattle.law_rules.specs.Round.{round-to}
use Rattle.law_rules.specs.All.{true-false}
use Rattle.law_rules.specs.Kinds.{policy-number, configured-true}
use Rattle.thm_hand.specs.Hand.{nothing, Kept}
use Rattle.law_calls.specs.Steps.{held-ind, swap-ind, clear-ind, unreserve-ind, unreserve_local-ind}
use Rattle.law_calls.specs.Payers.{Pays, Nobody, payer-both, pay-kind, move-kind, kind-pay, kind-move}
use Rattle.thm_hand.specs.Locals.{load_same, local-room}
use Rattle.thm_keeps.specs.Fine.{Asks}
use Rattle.thm_reach.specs.Reach.{Lends, Reachable, ReachedBy}
use Rattle.thm_reach.specs.Ends.{Ends, one, local-clear, ask_lower-gives}

module _ (c : Config) (sz : Size c.tree_order) (q : Request) (A : Asks c q None) (single : q.order ≡ 0) (ts ls bs : List ℕ) (K : Kept c ts ls bs) where
  -- locals of class e are empty
  abbrev pub EmptyClass : ℕ → Type 0
  EmptyClass e = (x : ℕ) → x < locals_of c.places e → (local_at ls (slot c.places e x)).present ≡ true → (local_at ls (slot c.places e x)).free ≡ 0

  -- a local that has not enough for one frame has none
  not-enough : (l : Local) → has_enough c.tree_order l None (size q) ≡ false → l.present ≡ true → l.free ≡ 0
  unfolding has_enough in_tree
  not-enough l h p =
      let f : leb (size q) l.free ≡ false = rw p at h in
      let z : l.free < size q = leb-false _ _ f in
      omega (arith, z, one c sz q A single ts ls bs K)

  -- classes whose kind passes have only empty locals
  nobody-empty : (p : Kind → Bool) (i m e : ℕ) → Nobody p c ls q.class (index_of q.local) None (size q) i m → (d : ℕ) → i ≤ d → d < i + m → (q.class + d) % 8 ≡ e
      → p (policy c q.class e (size q)) ≡ true → EmptyClass e
  unfolding locals_of
  nobody-empty p i m e N d a b at pass x lx pr =
      not-enough (local_at ls (slot c.places e x))
      (subst (λ (y : ℕ). x < locals_of c.places y → has_enough c.tree_order (local_at ls (slot c.places y x)) None (size q) ≡ false) at
      (N d a b
      (subst (λ (y : ℕ). configured c.places y ≡ true) (sym at) (configured-true c e ((let l : e < 8 = subst (λ (y : ℕ). y < 8) at (mod-lt (q.class + d) (omega arith)) in l), omega arith)))
      (subst (λ (y : ℕ). p (policy c q.class y (size q)) ≡ true) (sym at) pass) x) lx)
      pr

  -- the payer's frame is reachable
  pays-reach : (p : Kind → Bool) (e j : ℕ) → Pays p c ls q.class None (size q) e j → Lends c q.class e → ReachedBy c ts ls q
  pays-reach p e j P L =
      Reachable.local e P.index P.class.0 P.index_lt L
      (subst (λ (x : ℕ). (local_at ls x).present ≡ true) P.is P.has.present)
      (subst (λ (x : ℕ). 0 < (local_at ls x).free) P.is (omega (arith, P.has.enough, one c sz q A single ts ls bs K)))

  -- its tree has a clear bit
  pays-clear : (p : Kind → Bool) (e j : ℕ) → Pays p c ls q.class None (size q) e j → 0 < clear c.tree_order bs (tree_on c.tree_order (local_at ls j))
  pays-clear p e j P = omega (arith, P.has.enough, one c sz q A single ts ls bs K, local-clear c sz q A single ts ls bs K j P.has.present)

  -- ---- steal from locals
  abbrev pub NoneSteals : Type 0
  NoneSteals = (e : ℕ) → e < 8 → (kind_at c q.class e ≡ 1) ⊎ (kind_at c q.class e ≡ 3) → EmptyClass e

  pub steal_local-ends : (i k : ℕ) → Ends (ReachedBy c ts ls q) NoneSteals ts ls bs (steal_local c q None (st ts ls bs i k))
  unfolding steal_local steal_any pay_from missed with_locals
  steal_local-ends i k =
      payer-both may_pay c ls q.class (index_of q.local) None (size q) (λ (x : Option Payer). Ends (ReachedBy c ts ls q) NoneSteals ts ls bs (pay_from c q None x (st ts ls bs i k))) 8 0
      (λ N. (
        (λ e le kd.
            let f = round-to 8 q.class e le in
            nobody-empty may_pay 0 8 e N f.0 (omega arith) (omega (arith, f.1.0)) f.1.1
            (kind-pay (policy c q.class e (size q)) (subst (λ (y : ℕ). (y ≡ 1) ⊎ (y ≡ 3)) (sym (policy-number c q.class e (size q))) kd))),
        refl,
      ))
      (λ d j a b P. gives ((q.class + d) % 8) j P)
    where
      gives : (e j : ℕ) → Pays may_pay c ls q.class None (size q) e j → Ends (ReachedBy c ts ls q) NoneSteals ts ls bs (pay_from c q None (Some (paying e j)) (st ts ls bs i k))
      gives e j P =
          held-ind (Ends (ReachedBy c ts ls q) NoneSteals ts ls bs) (st ts ls bs i k) c.tree_order j None (size q) _ _ _
          (λ p it le. ask_lower-gives c sz q A single ts ls bs K (ReachedBy c ts ls q) NoneSteals (pays-reach may_pay e j P (lends (subst (λ (y : ℕ). (y ≡ 1) ⊎ (y ≡ 3)) (policy-number c q.class e (size q)) (pay-kind (policy c q.class e (size q)) P.passes))))
          ((local_at ls j).row / tree_rows c.tree_order) (local_at ls j).row e (K.inside j p) (pays-clear may_pay e j P) _ refl)
          (λ p no'. absurd (no' P.has.named P.has.enough))
          (λ n. true-false P.has.present n)
        where
          lends : (kind_at c q.class e ≡ 1) ⊎ (kind_at c q.class e ≡ 3) → Lends c q.class e
          lends (inl h) = inl h
          lends (inr h) = inr (inl h)

  -- ---- demote
  abbrev pub NoneMoves : Type 0
  NoneMoves = (e : ℕ) → e < 8 → kind_at c q.class e ≡ 2 → e ≢ q.class → EmptyClass e

  -- the reservation l, on a tree with a clear bit, goes to the given local or back, and gives
  demote_to-gives : ReachedBy c ts ls q → (l : Local) → tree_on c.tree_order l < trees_of c → 0 < clear c.tree_order bs (tree_on c.tree_order l) → (g : Option ℕ) (s : State) → s.bits ≡ bs
      → Ends (ReachedBy c ts ls q) NoneMoves ts ls bs (demote_to c q None l g s)
  unfolding demote_to stuck with_trees with_locals
  demote_to-gives r l lt pos (Some x) s e =
      swap-ind (Ends (ReachedBy c ts ls q) NoneMoves ts ls bs) s (slot c.places q.class x) l _
      (unreserve_local-ind (Ends (ReachedBy c ts ls q) NoneMoves ts ls bs) _ c _ q.class _ _
      (λ p. unreserve-ind (Ends (ReachedBy c ts ls q) NoneMoves ts ls bs) _ c _ q.class _ _ _ (λ y u v w. ask_lower-gives c sz q A single ts ls bs K (ReachedBy c ts ls q) NoneMoves r _ l.row q.class lt pos _ e) (λ no'. r))
      (λ p. ask_lower-gives c sz q A single ts ls bs K (ReachedBy c ts ls q) NoneMoves r _ l.row q.class lt pos _ e))
  demote_to-gives r l lt pos None s e =
      unreserve-ind (Ends (ReachedBy c ts ls q) NoneMoves ts ls bs) s c _ q.class _ _ _ (λ y u v w. ask_lower-gives c sz q A single ts ls bs K (ReachedBy c ts ls q) NoneMoves r _ l.row q.class lt pos _ e) (λ no'. r)

  pub demote_local-ends : (i k : ℕ) → Ends (ReachedBy c ts ls q) NoneMoves ts ls bs (demote_local c q None (st ts ls bs i k))
  unfolding demote_local demote_any move_from missed with_locals
  demote_local-ends i k =
      payer-both may_move c ls q.class (index_of q.local) None (size q) (λ (x : Option Payer). Ends (ReachedBy c ts ls q) NoneMoves ts ls bs (move_from c q None x (st ts ls bs i k))) 7 1
      (λ N. (
        (λ e le kd ne.
            let f = round-to 8 q.class e le in
            nobody-empty may_move 1 7 e N f.0 (far f.0 e ne f.1.1) (omega (arith, f.1.0)) f.1.1
            (kind-move (policy c q.class e (size q)) (policy-number c q.class e (size q) ∙ kd))),
        refl,
      ))
      (λ d j a b P. gives ((q.class + d) % 8) j (λ e. omega (arith, A.class.0)) P)
    where
      far : (d e : ℕ) → e ≢ q.class → (q.class + d) % 8 ≡ e → 1 ≤ d
      far zero e ne at = absurd (ne (let z : (q.class + 0) % 8 ≡ q.class = omega (arith, A.class.0) in sym at ∙ z))
      far (suc d) e ne at = omega arith

      gives : (e j : ℕ) → e ≢ q.class → Pays may_move c ls q.class None (size q) e j → Ends (ReachedBy c ts ls q) NoneMoves ts ls bs (move_from c q None (Some (paying e j)) (st ts ls bs i k))
      gives e j ne P =
          held-ind (Ends (ReachedBy c ts ls q) NoneMoves ts ls bs) (st ts ls bs i k) c.tree_order j None (size q) _ _ _
          (λ p it le.
          let l2 : List ℕ = set ls j (local_word (reservation (local_at ls j).row ((local_at ls j).free - size q))) in
          let is : local_at l2 j ≡ reservation (local_at ls j).row ((local_at ls j).free - size q) =
          load_same ls j (local_at ls j).row ((local_at ls j).free - size q) (present-lt ls j p) (row_lt (get_or ls j 0)) (omega (arith, local-room c sz ts ls bs nothing nothing K j p, frames-le c.tree_order sz)) in
          clear-ind (Ends (ReachedBy c ts ls q) NoneMoves ts ls bs) _ j _
          (demote_to-gives
          (pays-reach may_move e j P (inr (inr (sym (policy-number c q.class e (size q)) ∙ move-kind (policy c q.class e (size q)) P.passes, ne))))
          (local_at l2 j) (rw is (K.inside j p)) (rw is (pays-clear may_move e j P)) q.local _ refl))
          (λ p no'. absurd (no' P.has.named P.has.enough))
          (λ n. true-false P.has.present n)
