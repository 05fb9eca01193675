-- A drain returns every reservation, is never stuck, and leaves all locals absent. Assumes nothing.
use Rattle.std.specs.Prelude.{◌≡◌, Bool, true, false, List, set}
use Rattle.std.proofs.Math.Path.{refl, ap, subst}
use Rattle.std.proofs.Common.{◌∙◌}
use Prim.Native.Nat.{ℕ, zero, suc, ◌+◌, ◌<◌}
use native.Mathlib.Omega.{arith}
use Rattle.std.proofs.Math.Decide.{ℕ_discrete, dec_lt}
use Rattle.std.proofs.Math.ListN.{length, get_or, get_or-eq_default}
use Rattle.std.proofs.Math.Seq.{get_or-set_same, get_or-set_other}
use Rattle.rules.specs.Base.{Out, out, sum}
use Rattle.rules.specs.Words.{Config, locals_of, slot, local_count, local_at}
use Rattle.rules.specs.Policy.{Configured}
use Rattle.rules.specs.declared.Local.{Local}
use Rattle.rules_calls.specs.State.{State, with_trees, with_locals}
use Rattle.rules_calls.specs.Calls.{drain_locals, drain_classes}
use Rattle.law_rules.specs.Sizes.{Size}
use Rattle.law_rules.specs.Slots.{slot_lt, slot_next}
use Rattle.thm_hand.specs.Hand.{share, holds, nothing, Hand, Kept}
use Rattle.law_calls.specs.Steps.{clear-ind}
use Rattle.law_calls.specs.Answers.{drained-ind}
use Rattle.thm_hand.specs.Locals.{hand-clear}
use Rattle.thm_keeps.specs.Reserves.{returned-ind}

-- the rules stand, no bit has changed, and the locals before slot e are absent
pub record Emptied (c : Config) (b : List ℕ) (e : ℕ) (s : State) : Type 0 where
  pub kept : Kept c s.trees s.locals s.bits
  pub bits : s.bits ≡ b
  pub absent : (j : ℕ) → j < e → get_or s.locals j 0 ≡ 0

-- and it is not stuck
abbrev pub Drained : Config → List ℕ → ℕ → Out Bool State → Type 0
Drained c b e (out true s) = Emptied c b e s
Drained c b e (out false s) = ⊥

-- a class that has a local is configured
has-local : (c : Config) (k i : ℕ) → k < 8 → i < locals_of c.places k → Configured c k
unfolding locals_of
has-local c k i lk li = (lk, omega arith)

-- the next class begins where this one ends
class-end : (ps : List ℕ) (k : ℕ) → slot ps k (locals_of ps k) ≡ slot ps (k + 1) 0
unfolding slot sum
class-end ps k =
    let e : k + 1 ≡ suc k = omega arith in
    let z : 0 + k ≡ k = omega arith in
    let d : sum (locals_of ps) 0 (suc k) ≡ sum (locals_of ps) 0 k + locals_of ps k = ap (λ (x : ℕ). sum (locals_of ps) 0 k + locals_of ps x) z in
    rw e (omega (arith, d))

module _ (c : Config) (sz : Size c.tree_order) (b : List ℕ) where
  -- n locals of class k from index i on
  pub locals-drained : (n k i : ℕ) → k < 8 → i + n ≡ locals_of c.places k → (s : State) → Emptied c b (slot c.places k i) s
      → Drained c b (slot c.places k (locals_of c.places k)) (drain_locals n c k i s)
  unfolding drain_locals with_trees with_locals
  locals-drained zero k i lk e s E = let d : i ≡ locals_of c.places k = omega arith in subst (λ (x : ℕ). Emptied c b (slot c.places k x) s) d E
  locals-drained (suc n) k i lk e s E =
      let j : ℕ = slot c.places k i in
      let l : Local = local_at s.locals j in
      let li : i < locals_of c.places k = omega arith in
      let K = E.kept in
      let lt : j < length s.locals = omega (arith, K.local_words, slot_lt c.places k i lk li) in
      let H : Hand c s.trees (set s.locals j 0) s.bits (λ x. share c.tree_order l x + 0) (λ x. holds c.tree_order l x) =
      hand-clear c sz s.trees s.locals s.bits nothing nothing K j (λ x. share c.tree_order l x + 0) (λ x. holds c.tree_order l x) lt (λ x. refl) (λ x. omega arith) in
      clear-ind (Drained c b (slot c.places k (locals_of c.places k))) s j _
      (returned-ind (Drained c b (slot c.places k (locals_of c.places k))) c sz (with_locals s (set s.locals j 0)) l k nothing H _ _ (has-local c k i lk li)
      (λ p. (K.inside j p, K.pair k i lk li p))
      (λ ts H1. locals-drained n k (i + 1) lk (omega arith) (with_trees (with_locals s (set s.locals j 0)) ts)
      (record { kept = H1; bits = E.bits; absent = λ x lx. go x (rw (slot_next c.places k i) at lx) (ℕ_discrete x j) })))
    where
      go : (x : ℕ) → x < slot c.places k i + 1 → Dec (x ≡ slot c.places k i) → get_or (set s.locals (slot c.places k i) 0) x 0 ≡ 0
      go x lx (yes d) =
          ap (λ (y : ℕ). get_or (set s.locals (slot c.places k i) 0) y 0) d
          ∙ get_or-set_same s.locals (slot c.places k i) 0 0 (omega (arith, E.kept.local_words, slot_lt c.places k i lk (let li : i < locals_of c.places k = omega arith in li)))
      go x lx (no d) = get_or-set_other s.locals (slot c.places k i) x 0 0 d ∙ E.absent x (omega arith)

  -- n classes from k on
  pub classes-drained : (n k : ℕ) → k + n ≡ 8 → (s : State) → Emptied c b (slot c.places k 0) s → Drained c b (slot c.places 8 0) (drain_classes n c k s)
  unfolding drain_classes
  classes-drained zero k e s E = let d : k ≡ 8 = omega arith in subst (λ (x : ℕ). Emptied c b (slot c.places x 0) s) d E
  classes-drained (suc n) k e s E =
      drained-ind (Drained c b (slot c.places k (locals_of c.places k))) (Drained c b (slot c.places 8 0)) (drain_locals (locals_of c.places k) c k 0 s) (drain_classes n c (k + 1))
      (locals-drained (locals_of c.places k) k 0 (omega arith) (omega arith) s E)
      (λ v F. classes-drained n (k + 1) (omega arith) v (subst (λ (x : ℕ). Emptied c b x v) (class-end c.places k) F))
      (λ v F. absurd F)

  -- all of them
  pub all-drained : (s : State) → Kept c s.trees s.locals s.bits → s.bits ≡ b → Drained c b (local_count c.places) (drain_classes 8 c 0 s)
  unfolding slot local_count sum
  all-drained s K e =
      let z : slot c.places 8 0 ≡ local_count c.places = omega arith in
      subst (λ (x : ℕ). Drained c b x (drain_classes 8 c 0 s)) z
      (classes-drained 8 0 refl s (record { kept = K; bits = e; absent = λ j lj. absurd (let n : j < 0 = lj in omega arith) }))

-- past the lent words there is no local
pub none_left : (c : Config) (ts ls bs : List ℕ) → Kept c ts ls bs → ((j : ℕ) → j < local_count c.places → get_or ls j 0 ≡ 0) → (j : ℕ) → get_or ls j 0 ≡ 0
none_left c ts ls bs K f j = go (dec_lt j (local_count c.places))
  where
    go : Dec (j < local_count c.places) → get_or ls j 0 ≡ 0
    go (yes l) = f j l
    go (no l) = get_or-eq_default ls 0 (omega (arith, K.local_words))
