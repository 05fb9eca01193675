-- The argument tests: what they have shown where they refuse nothing, and the numbers with which they refuse. Assumes nothing.
use Rattle.std.specs.Prelude.{◌≡◌, refl, ◌⊎◌, ℕ, ◌+◌, ◌%◌, ◌^◌, ◌<◌, ◌≤◌, eqb, ltb, Option, Some, None}
use Rattle.std.proofs.Common.{inl, inr, arith}
use borrow.Author.Tests.{eqb-true, ltb-true, ltb-false}
use Rattle.rules.specs.Words.{Config, configured, locals_of}
use Rattle.rules.specs.Policy.{Configured}
use Rattle.rules.specs.declared.Request.{Request}
use Rattle.rules_calls.specs.Calls.{refuse_local, refuse_class, refusal}
use Rattle.law_rules.specs.Kinds.{configured-fact}
use Rattle.law_calls.specs.Steps.{ifte-ind, pick_ind}

-- a local given is one of the class's
abbrev pub LocalIn : Config → ℕ → Option ℕ → Type 0
LocalIn c k (Some i) = i < locals_of c.places k
LocalIn c k None = Unit {0}

-- the arguments of a get or a put of the frame f, none refused
pub record Checked (c : Config) (q : Request) (f : ℕ) : Type 0 where
  pub order : q.order ≤ c.tree_order
  pub bounds : f + 2 ^ q.order ≤ c.frames
  pub aligned : f % 2 ^ q.order ≡ 0
  pub class : Configured c q.class
  pub local : LocalIn c q.class q.local

-- refused with 2 to 6, or not at all
module _ (Q : ℕ → Type 0) (c : Config) (refused : (n : ℕ) → 2 ≤ n → n ≤ 6 → Q n) where
  local-ind : (k : ℕ) (g : Option ℕ) → (LocalIn c k g → Q 0) → Q (refuse_local c k g)
  unfolding refuse_local
  local-ind k (Some i) on = pick_ind Q (ltb i (locals_of c.places k)) 0 6 (λ t. on (ltb-true _ _ t)) (λ _. refused 6 (omega arith) (omega arith))
  local-ind k None on = on tt

  class-ind : (q : Request) → (Configured c q.class → LocalIn c q.class q.local → Q 0) → Q (refuse_class c q)
  unfolding refuse_class
  class-ind q on =
      pick_ind Q (ltb 7 q.class) 5 _ (λ _. refused 5 (omega arith) (omega arith))
      (λ t. pick_ind Q (configured c.places q.class) _ 5
      (λ u. local-ind q.class q.local (on (configured-fact c q.class (let l : q.class ≤ 7 = ltb-false _ _ t in omega arith) u)))
      (λ _. refused 5 (omega arith) (omega arith)))

  pub refusal-ind : (q : Request) (f : ℕ) → (Checked c q f → Q 0) → Q (refusal c q f)
  unfolding refusal
  refusal-ind q f on =
      ifte-ind Q (ltb c.tree_order q.order) _ _ (λ _. refused 2 (omega arith) (omega arith)) (λ t.
      ifte-ind Q (ltb c.frames (f + 2 ^ q.order)) _ _ (λ _. refused 3 (omega arith) (omega arith)) (λ u.
      ifte-ind Q (eqb (f % 2 ^ q.order) 0) _ _
      (λ v. class-ind q (λ k l. on (record { order = ltb-false _ _ t; bounds = ltb-false _ _ u; aligned = eqb-true _ _ v; class = k; local = l })))
      (λ _. refused 4 (omega arith) (omega arith))))

module _ (c : Config) (q : Request) (f : ℕ) where
  -- none refused
  pub refusal-checked : refusal c q f ≡ 0 → Checked c q f
  refusal-checked = refusal-ind (λ (n : ℕ). n ≡ 0 → Checked c q f) c (λ n l m e. absurd (omega arith)) q f (λ k _. k)

  -- the numbers 2 to 6, or none
  pub refusal-range : (refusal c q f ≡ 0) ⊎ ((2 ≤ refusal c q f) × (refusal c q f ≤ 6))
  refusal-range = refusal-ind (λ (n : ℕ). (n ≡ 0) ⊎ ((2 ≤ n) × (n ≤ 6))) c (λ n l m. inr (l, m)) q f (λ _. inl refl)
