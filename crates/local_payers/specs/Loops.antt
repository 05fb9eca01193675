-- Laws of the loop over the classes in turn, and where a demote begins. Assumes nothing.
use Rattle.std.specs.Prelude.{◌≡◌, refl, Bool, true, false, List, Option, Some, None}
use Prim.Native.Nat.{ℕ, suc, ◌+◌, ◌-◌, ◌%◌, ◌<◌, ◌≤◌}
use native.Mathlib.Omega.{arith}
use Rattle.rules.specs.Base.{both, ifte}
use Rattle.rules.specs.Words.{Config, configured}
use Rattle.rules.specs.Policy.{policy}
use Rattle.rules.specs.Locals.{may_move, payer_or, payer_in, demote_any}
use Rattle.rules.specs.declared.Kind.{Kind}
use Rattle.rules.specs.declared.Payer.{Payer}
use Rattle.local_first.specs.Round.{payer_of}

-- the local of class t that pays for a request of class k, or nobody
unfoldable pub payer_at : (Kind → Bool) → Config → List ℕ → ℕ → ℕ → Option ℕ → ℕ → ℕ → Option Payer
payer_at p c ls k from name n t =
    ifte (both (configured c.places t) (p (policy c k t n)))
    (λ _. payer_of c.tree_order c.places ls t from name n)
    (λ _. None)

-- the first, or else the second
unfoldable or_payer : Option Payer → Option Payer → Option Payer
or_payer (Some a) y = Some a
or_payer None y = y

-- a class that passes pays, or else the rest
class-or : (b : Bool) (ps : List ℕ) (t from : ℕ) (f : Option ℕ) (y : Option Payer)
    → ifte b (λ _. payer_or ps t from f (λ _. y)) (λ _. y) ≡ or_payer (ifte b (λ _. payer_or ps t from f (λ _. None)) (λ _. None)) y
unfolding ifte payer_or or_payer
class-or true ps t from (Some d) y = refl
class-or true ps t from None y = refl
class-or false ps t from f y = refl

module _ (p : Kind → Bool) (c : Config) (ls : List ℕ) (k from : ℕ) (name : Option ℕ) (n last : ℕ) where
  -- one class, or else the next ones
  payer-more : (i : ℕ) → i < last
      → payer_in p c ls k from name n i (last - i) ≡ or_payer (payer_at p c ls k from name n ((k + i) % 8)) (payer_in p c ls k from name n (i + 1) (last - (i + 1)))
  unfolding payer_in payer_at payer_of
  payer-more i h = let e : last - i ≡ suc (last - (i + 1)) = omega arith in rw e (class-or _ _ _ _ _ _)

  -- the classes from the i-th on give the payer g
  module _ {i : ℕ} {g : Option Payer} (inv : payer_in p c ls k from name n i (last - i) ≡ g) where
    -- no class is left
    pub payer-end : last ≤ i → None ≡ g
    unfolding payer_in
    payer-end h = let e : last - i ≡ 0 = omega arith in rw e at inv

    -- the i-th class gives x: it pays, or the next ones give g
    module _ (h : i < last) {x : Option Payer} (at_i : x ≡ payer_at p c ls k from name n ((k + i) % 8)) where
      pub pays : {a : Payer} → x ≡ Some a → x ≡ g
      unfolding or_payer
      pays e = rw (← inv, payer-more i h, ← at_i, e)

      pub passes : x ≡ None → payer_in p c ls k from name n (i + 1) (last - (i + 1)) ≡ g
      unfolding or_payer
      passes e = rw (← inv, payer-more i h, ← at_i, e)

-- a demote goes from the class after the own one on
pub from_next : (c : Config) (ls : List ℕ) (k from : ℕ) (name : Option ℕ) (n i : ℕ) {x : Option Payer}
    → x ≡ payer_in may_move c ls k from name n i (8 - i) → i ≡ 1 → x ≡ demote_any c ls k from name n
unfolding demote_any
from_next c ls k from name n i e h = rw h at e
