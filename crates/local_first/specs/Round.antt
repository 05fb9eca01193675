-- Laws of the loop over the locals of a class, from the given index round. z is the order of a tree. Assumes nothing.
use Rattle.std.specs.Prelude.{◌≡◌, Bool, true, List, ℕ, ◌+◌, ◌%◌, ◌<◌, ◌≤◌, eqb, Option, None, Some}
use Rattle.std.proofs.Common.{sym, ap, ◌∙◌, add-zero, add_assoc, mod-eq_of_lt, eq-or-lt_of_le, eq-eqb, ne_eqb}
use Rattle.std.proofs.Math.Logic.{⊎_elim}
use Rattle.std.proofs.Math.Nat.{mod-lt, mod_self, mod-add-mod}
use native.Mathlib.Omega.{arith}
use Rattle.rules.specs.Base.{pick, sum, first_in}
use Rattle.rules.specs.Words.{locals_of, slot, local_at}
use Rattle.rules.specs.Locals.{has_enough, cyclic, first_local, payer_or, paying}
use Rattle.rules.specs.declared.Payer.{Payer}
use Rattle.law_rules.specs.First.{first-hit}

-- the local of class k that pays, or nobody
unfoldable pub payer_of : ℕ → List ℕ → List ℕ → ℕ → ℕ → Option ℕ → ℕ → Option Payer
payer_of z ps ls k from name n = payer_or ps k from (first_local z ps ls k from name n) (λ _. None)

-- of a class whose locals stand in `len` slots from `first` on: the slot of the one that is d further than the given index
unfoldable pub round : ℕ → ℕ → ℕ → ℕ → ℕ
round first len from d = first + (from + d) % len

-- that local has enough
unfoldable pub enough : ℕ → List ℕ → ℕ → ℕ → ℕ → Option ℕ → ℕ → ℕ → Bool
enough z ls first len from name n d = has_enough z (local_at ls (round first len from d)) name n

module _ (z : ℕ) (ps ls : List ℕ) (k from : ℕ) (name : Option ℕ) (n first len : ℕ) (f : first ≡ sum (locals_of ps) 0 k) (l : len ≡ locals_of ps k) where
  -- no local of the class, or none of them has enough
  pub payer-nobody : first_in (enough z ls first len from name n) 0 len ≡ None → None ≡ payer_of z ps ls k from name n
  unfolding payer_of payer_or first_local enough round cyclic slot
  payer-nobody h = rw (rw (f, l) at h)

  -- the first that has enough
  pub payer-here : (d : ℕ) → d < len → first_in (enough z ls first len from name n) 0 d ≡ None → enough z ls first len from name n d ≡ true
      → Some (paying k (round first len from d)) ≡ payer_of z ps ls k from name n
  unfolding payer_of payer_or first_local enough round cyclic slot
  payer-here d m h e = rw (f, l, rw (f, l) at (first-hit (enough z ls first len from name n) len d m h e))

-- one further: the next, or from the last back to the first
pub mod-next : (x m : ℕ) → x % m + 1 < m → (x + 1) % m ≡ x % m + 1
mod-next x m h = sym (mod-add-mod x m 1) ∙ mod-eq_of_lt h

pub mod-round : (x m : ℕ) → x % m + 1 ≡ m → (x + 1) % m ≡ 0
mod-round x m h = sym (mod-add-mod x m 1) ∙ ap (λ (y : ℕ). y % m) h ∙ mod_self m

module _ (first len from : ℕ) where
  -- the given index, round the class
  pub round-first : round first len from 0 ≡ first + from % len
  unfolding round
  round-first = rw (add-zero from)

  -- each slot is one of the class
  pub round-lt : (d : ℕ) → 0 < len → round first len from d < first + len
  unfolding round
  round-lt d h = let l : (from + d) % len < len = mod-lt (from + d) h in omega arith

  -- one further
  pub round-next : (d : ℕ) → 0 < len → pick (eqb (round first len from d + 1) (first + len)) first (round first len from d + 1) ≡ round first len from (d + 1)
  unfolding round
  round-next d h =
      let l : (from + d) % len < len = mod-lt (from + d) h in
      let a : from + (d + 1) ≡ from + d + 1 = omega arith in
      ⊎_elim
      (λ (q : (from + d) % len + 1 ≡ len).
      let e : first + (from + d) % len + 1 ≡ first + len = omega arith in
      rw (eq-eqb _ _ e, a, mod-round (from + d) len q) (sym (add-zero _)))
      (λ (m : (from + d) % len + 1 < len).
      let e : first + (from + d) % len + 1 ≡ first + len → ⊥ = λ q. omega arith in
      rw (ne_eqb _ _ e, a, mod-next (from + d) len m) (add_assoc _ _ _))
      (eq-or-lt_of_le (let g : (from + d) % len + 1 ≤ len = omega arith in g))
