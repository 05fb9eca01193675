-- Which local pays: one of a configured class whose kind passes, with enough, and on the named tree; and that none can where nobody does. Assumes nothing.
use Rattle.std.specs.Prelude.{◌≡◌, Bool, true, false, ◌⊎◌, List, leb, Option, Some, None}
use Rattle.std.proofs.Math.Path.{refl, subst}
use Rattle.std.proofs.Common.{sym, ◌∙◌, inl, inr, arith, leb-true, le-leb, ap}
use Prim.Native.Nat.{ℕ, zero, suc, ◌+◌, ◌%◌, ◌<◌, ◌≤◌}
use Rattle.std.proofs.Math.Nat.{mod-lt}
use Rattle.rules.specs.Base.{pick, both, first_in}
use Rattle.rules.specs.Words.{Config, configured, locals_of, slot, local_at}
use Rattle.rules.specs.Policy.{policy, Configured}
use Rattle.rules.specs.Locals.{in_tree, has_enough, cyclic, first_local, payer_or, may_pay, may_move, payer_in, steal_any, demote_any, paying}
use Rattle.rules.specs.declared.Local.{Local}
use Rattle.rules.specs.declared.Kind.{Kind}
use Rattle.rules.specs.declared.Kind.TheVariants.{Invalid, Steal, Demote, Match}
use Rattle.rules.specs.declared.Payer.{Payer}
use Rattle.law_rules.specs.First.{first-sound, first-empty}
use Rattle.law_rules.specs.Cases.{by-eq}
use Rattle.law_rules.specs.Round.{round-to}
use Rattle.law_rules.specs.All.{true-false, both_left, both_right, both_true}
use Rattle.law_rules.specs.Kinds.{kind_number, configured-fact}
use Rattle.law_calls.specs.Steps.{ifte-ind}

-- a local that has enough
pub record Enough (z : ℕ) (l : Local) (name : Option ℕ) (n : ℕ) : Type 0 where
  pub present : l.present ≡ true
  pub named : in_tree z l.row name ≡ true
  pub enough : n ≤ l.free

pub enough-fact : (z : ℕ) (l : Local) (name : Option ℕ) (n : ℕ) → has_enough z l name n ≡ true → Enough z l name n
unfolding has_enough
enough-fact z l name n h = go l.present refl (in_tree z l.row name) refl h
  where
    go : (a : Bool) → l.present ≡ a → (b : Bool) → in_tree z l.row name ≡ b → pick a (pick b (leb n l.free) false) false ≡ true → Enough z l name n
    go true p true q r = record { present = p; named = q; enough = leb-true _ _ r }
    go true p false q r = absurd (let x : ◌≡◌ {A = ℕ} 0 1 = cc in omega arith)
    go false p b q r = absurd (let x : ◌≡◌ {A = ℕ} 0 1 = cc in omega arith)

pub has-enough : {z : ℕ} {l : Local} {name : Option ℕ} {n : ℕ} → Enough z l name n → has_enough z l name n ≡ true
unfolding has_enough
has-enough E = rw (E.present, E.named, le-leb _ _ E.enough)

-- the payer for class k: the local in slot j, of class e, whose kind passes the test p
pub record Pays (p : Kind → Bool) (c : Config) (ls : List ℕ) (k : ℕ) (name : Option ℕ) (n e j : ℕ) : Type 0 where
  pub class : Configured c e
  pub passes : p (policy c k e n) ≡ true
  pub index : ℕ
  pub index_lt : index < locals_of c.places e
  pub is : j ≡ slot c.places e index
  pub has : Enough c.tree_order (local_at ls j) name n

module _ (p : Kind → Bool) (c : Config) (ls : List ℕ) (k from : ℕ) (name : Option ℕ) (n : ℕ) where
  -- the local of class e that is d further than the given index has enough
  abbrev Has : ℕ → ℕ → Bool
  Has e d = has_enough c.tree_order (local_at ls (slot c.places e ((from + d) % locals_of c.places e))) name n

  -- no local of class e has enough
  abbrev pub Unable : ℕ → Type 0
  Unable e = (x : ℕ) → x < locals_of c.places e → has_enough c.tree_order (local_at ls (slot c.places e x)) name n ≡ false

  -- nor has one of the i-th to the (i + m)-th class from k on, where the class's kind passes
  abbrev pub Nobody : ℕ → ℕ → Type 0
  Nobody i m = (d : ℕ) → i ≤ d → d < i + m → configured c.places ((k + d) % 8) ≡ true → p (policy c k ((k + d) % 8) n) ≡ true → Unable ((k + d) % 8)

  -- the first local of class e with enough, or the next class
  class-ind : (Q : Option Payer → Type 0) (e : ℕ) (next : Unit {0} → Option Payer) → Configured c e → p (policy c k e n) ≡ true
      → (Unable e → Q (next tt)) → ((j : ℕ) → Pays p c ls k name n e j → Q (Some (paying e j)))
      → Q (payer_or c.places e from (first_local c.tree_order c.places ls e from name n) next)
  unfolding first_local payer_or cyclic
  class-ind Q e next ce pe rest local = go (first_in (Has e) 0 (locals_of c.places e)) refl
    where
      go : (x : Option ℕ) → first_in (Has e) 0 (locals_of c.places e) ≡ x → Q (payer_or c.places e from x next)
      go (Some d) h =
          let s = first-sound (Has e) 0 (locals_of c.places e) d h in
          local (slot c.places e ((from + d) % locals_of c.places e))
          (record {
            class = ce;
            passes = pe;
            index = (from + d) % locals_of c.places e;
            index_lt = mod-lt (from + d) (omega (arith, s.high));
            is = refl;
            has = enough-fact c.tree_order (local_at ls (slot c.places e ((from + d) % locals_of c.places e))) name n s.passed;
          })
      go None h = rest (λ x lx.
          let r = round-to (locals_of c.places e) from x lx in
          subst (λ (y : ℕ). has_enough c.tree_order (local_at ls (slot c.places e y)) name n ≡ false) r.1.1
          (first-empty (Has e) 0 (locals_of c.places e) h r.0 (omega arith) (omega (arith, r.1.0))))

  -- over the classes: a local pays, or none can
  pub payer-both : (Q : Option Payer → Type 0) (m i : ℕ) → (Nobody i m → Q None)
      → ((d j : ℕ) → i ≤ d → d < i + m → Pays p c ls k name n ((k + d) % 8) j → Q (Some (paying ((k + d) % 8) j))) → Q (payer_in p c ls k from name n i m)
  unfolding payer_in
  payer-both Q zero i none pays = none (λ d a b. absurd (omega arith))
  payer-both Q (suc m) i none pays =
      ifte-ind Q (both (configured c.places ((k + i) % 8)) (p (policy c k ((k + i) % 8) n))) _ _
      (λ t. class-ind Q ((k + i) % 8) _
      (configured-fact c ((k + i) % 8) (mod-lt (k + i) (omega arith)) (both_left (configured c.places ((k + i) % 8)) (p (policy c k ((k + i) % 8) n)) t))
      (both_right (configured c.places ((k + i) % 8)) (p (policy c k ((k + i) % 8) n)) t)
      (λ empty. payer-both Q m (i + 1)
      (λ N. none (λ d a b cf ps. by-eq d i
      (λ eq. subst (λ (y : ℕ). Unable ((k + y) % 8)) (sym eq) empty)
      (λ ne. N d (omega arith) (omega arith) cf ps)))
      (λ d j a b. pays d j (omega arith) (omega arith)))
      (λ j P. pays i j (omega arith) (omega arith) P))
      (λ f. payer-both Q m (i + 1)
      (λ N. none (λ d a b cf ps. by-eq d i
      (λ eq. true-false (both_true (configured c.places ((k + i) % 8)) (p (policy c k ((k + i) % 8) n))
      (subst (λ (y : ℕ). configured c.places ((k + y) % 8) ≡ true) eq cf) (subst (λ (y : ℕ). p (policy c k ((k + y) % 8) n) ≡ true) eq ps)) f)
      (λ ne. N d (omega arith) (omega arith) cf ps)))
      (λ d j a b. pays d j (omega arith) (omega arith)))

  -- the same, whoever pays
  pub payer-ind : (Q : Option Payer → Type 0) → Q None → ((e j : ℕ) → Pays p c ls k name n e j → Q (Some (paying e j))) → (m i : ℕ) → Q (payer_in p c ls k from name n i m)
  payer-ind Q nobody local m i = payer-both Q m i (λ _. nobody) (λ d j _ _ P. local ((k + d) % 8) j P)

  payer-enough : (m i : ℕ) {x : Option Payer} {a : Payer} → x ≡ payer_in p c ls k from name n i m → x ≡ Some a → has_enough c.tree_order (local_at ls a.slot) name n ≡ true
  payer-enough m i {x} {a} first some =
      payer-ind (λ (y : Option Payer). y ≡ Some a → has_enough c.tree_order (local_at ls a.slot) name n ≡ true)
      (λ is. absurd (let z : ◌≡◌ {A = ℕ} 0 1 = cc in omega arith))
      (λ d l P is. let same : paying d l ≡ a = cc in let at : l ≡ a.slot = ap (λ (y : Payer). y.slot) same in subst (λ (y : ℕ). has_enough c.tree_order (local_at ls y) name n ≡ true) at (has-enough P.has))
      m i (sym first ∙ some)

-- so one that pays has enough, and so has one whose reservation moves
module _ (c : Config) (ls : List ℕ) (k from : ℕ) (name : Option ℕ) (n : ℕ) {x : Option Payer} {a : Payer} where
  pub steal-enough : x ≡ steal_any c ls k from name n → x ≡ Some a → has_enough c.tree_order (local_at ls a.slot) name n ≡ true
  unfolding steal_any
  steal-enough first some = payer-enough may_pay c ls k from name n 8 0 first some

  pub demote-enough : x ≡ demote_any c ls k from name n → x ≡ Some a → has_enough c.tree_order (local_at ls a.slot) name n ≡ true
  unfolding demote_any
  demote-enough first some = payer-enough may_move c ls k from name n 7 1 first some

-- ---- the kinds of classes that pay, and of those whose reservation moves
pub pay-kind : (d : Kind) → may_pay d ≡ true → (kind_number d ≡ 1) ⊎ (kind_number d ≡ 3)
unfolding may_pay
pay-kind Invalid e = true-false e refl
pay-kind Steal e = inl refl
pay-kind Demote e = true-false e refl
pay-kind (Match r) e = inr refl

pub move-kind : (d : Kind) → may_move d ≡ true → kind_number d ≡ 2
unfolding may_move
move-kind Invalid e = true-false e refl
move-kind Steal e = true-false e refl
move-kind Demote e = refl
move-kind (Match r) e = true-false e refl

-- the other way
pub kind-pay : (d : Kind) → (kind_number d ≡ 1) ⊎ (kind_number d ≡ 3) → may_pay d ≡ true
unfolding may_pay
kind-pay Invalid (inl e) = absurd (omega arith)
kind-pay Invalid (inr e) = absurd (omega arith)
kind-pay Steal e = refl
kind-pay Demote (inl e) = absurd (omega arith)
kind-pay Demote (inr e) = absurd (omega arith)
kind-pay (Match r) e = refl

pub kind-move : (d : Kind) → kind_number d ≡ 2 → may_move d ≡ true
unfolding may_move
kind-move Invalid e = absurd (omega arith)
kind-move Steal e = absurd (omega arith)
kind-move Demote e = refl
kind-move (Match r) e = absurd (omega arith)
