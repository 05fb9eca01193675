-- Which blocks of a pattern are held: those of its digits, and no others. Assumes nothing.
use Rattle.std.specs.Prelude.{◌≡◌, true, false, List, ℕ, ◌-◌, ◌/◌, ◌%◌, ◌^◌, ◌≤◌, ◌<◌, eqb, length, get_or, set, Option, Some, None}
use Rattle.std.specs.Option.{is_some}
use Rattle.std.proofs.Common.{◌∙◌, sym, ap, ⊎_elim, arith, length-set, get_or-set_same, get_or-set_other}
use Rattle.std.proofs.Math.Nat.{eq-or-lt_of_le}

-- of the orders from o on, those that are a digit of n have the first frame of a block; those below have none
pub record HeldFrom (n : ℕ) (first : List (Option ℕ)) (o : ℕ) : Type 0 where
  pub len : length first ≡ 12
  pub none : (k : ℕ) → k < o → get_or first k None ≡ None
  pub held : (k : ℕ) → o ≤ k → k < 12 → is_some (get_or first k None) ≡ eqb (n / 2 ^ k % 2) 1

module _ (n : ℕ) (first : List (Option ℕ)) (o : ℕ) (lt : 0 < o) (few : o ≤ 12) (h : HeldFrom n first o) where
  -- the next order is no digit
  pub held_over : eqb (n / 2 ^ (o - 1) % 2) 1 ≡ false → HeldFrom n first (o - 1)
  held_over e = record {
    len = h.len;
    none = λ k l. h.none k (omega arith);
    held = λ k l m. ⊎_elim
        (λ (q : o - 1 ≡ k). ap is_some (h.none k (omega arith)) ∙ sym (ap (λ (i : ℕ). eqb (n / 2 ^ i % 2) 1) (sym q) ∙ e))
        (λ q. h.held k (omega arith) m)
        (eq-or-lt_of_le l);
  }

  -- it is one, and its block begins at f
  pub held_one : (f : ℕ) → eqb (n / 2 ^ (o - 1) % 2) 1 ≡ true → HeldFrom n (set first (o - 1) (Some f)) (o - 1)
  held_one f e = record {
    len = length-set first (o - 1) (Some f) ∙ h.len;
    none = λ k l. get_or-set_other first (o - 1) k _ None (λ same. omega arith) ∙ h.none k (omega arith);
    held = λ k l m. ⊎_elim
        (λ (q : o - 1 ≡ k). ap (λ (i : ℕ). is_some (get_or (set first (o - 1) (Some f)) i None)) (sym q)
        ∙ ap is_some (get_or-set_same first (o - 1) (Some f) None (omega (arith, h.len)))
        ∙ sym (ap (λ (i : ℕ). eqb (n / 2 ^ i % 2) 1) (sym q) ∙ e))
        (λ q. ap is_some (get_or-set_other first (o - 1) k _ None (λ same. omega arith)) ∙ h.held k (omega arith) m)
        (eq-or-lt_of_le l);
  }
