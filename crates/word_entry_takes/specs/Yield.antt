-- The test of a steal, and of a reserve or steal, as one: no reservation, and enough free. Laws of both by it. Assumes nothing.
use Rattle.std.specs.Prelude.{◌≡◌, refl, Bool, true, false, ℕ, ◌<◌, ◌≤◌, ltb, leb, Option, None}
use Rattle.std.proofs.Common.{sym, ◌∙◌, true≢false, ⊎_elim, leb-true, le-ltb, lt-ltb, le-leb}
use Rattle.std.proofs.lemmas.Bool.{lt-leb}
use Rattle.rules.specs.Base.{pick}
use Rattle.rules.specs.Words.{Config}
use Rattle.rules.specs.Policy.{policy}
use Rattle.rules.specs.Entries.{steal_of, steal_kind, reserve_of, reserve_kind}
use Rattle.rules.specs.declared.Kind.{Kind}
use Rattle.rules.specs.declared.Taken.{Taken}
use Rattle.rules.specs.declared.Tree.{Tree}
use Rattle.law_rules.specs.Cases.{below_or}

-- whether an entry may yield n frames
unfoldable pub may_yield : Tree → ℕ → Bool
may_yield t n = pick t.reserved false (leb n t.free)

turned : {A : Type 0} (f n : ℕ) (none x : A) → pick (ltb f n) none x ≡ pick (leb n f) x none
turned f n none x = ⊎_elim (λ (h : f < n). rw (lt-ltb _ _ h, lt-leb _ _ h)) (λ (h : n ≤ f). rw (le-ltb _ _ h, le-leb _ _ h)) (below_or f n)

one-test : {A : Type 0} (b : Bool) (f n : ℕ) (none x : A) → pick b none (pick (ltb f n) none x) ≡ pick (pick b false (leb n f)) x none
one-test true f n none x = refl
one-test false f n none x = turned f n none x

-- one that may has enough
pub yields-enough : (t : Tree) (n : ℕ) {b : Bool} → b ≡ may_yield t n → b ≡ true → n ≤ t.free
unfolding may_yield
yields-enough t n {b} tested e = go t.reserved refl
  where
    go : (r : Bool) → t.reserved ≡ r → n ≤ t.free
    go true h = absurd (true≢false (sym e ∙ (let y : b ≡ false = rw h at tested in y)))
    go false h = leb-true _ _ (let y : b ≡ leb n t.free = rw h at tested in sym y ∙ e)

-- refused; or by the policy's answer
module _ (c : Config) (t : Tree) (k n : ℕ) {b : Bool} (tested : b ≡ may_yield t n) where
  pub steal-refused : b ≡ false → None ≡ steal_of c t k n
  unfolding steal_of may_yield
  steal-refused e = rw (one-test t.reserved t.free n None (steal_kind t k n (policy c k t.class n)), ← tested, e)

  pub reserve-refused : b ≡ false → None ≡ reserve_of c t k n
  unfolding reserve_of may_yield
  reserve-refused e = rw (one-test t.reserved t.free n None (reserve_kind t k n (policy c k t.class n)), ← tested, e)

  module _ (may : b ≡ true) {kind answer : Kind} (asked : kind ≡ policy c k t.class n) (is : kind ≡ answer) where
    pub steal-by : {x : Option Tree} → x ≡ steal_kind t k n answer → x ≡ steal_of c t k n
    unfolding steal_of may_yield
    steal-by h = rw (one-test t.reserved t.free n None (steal_kind t k n (policy c k t.class n)), ← tested, may, ← asked, is) h

    pub reserve-by : {x : Option Taken} → x ≡ reserve_kind t k n answer → x ≡ reserve_of c t k n
    unfolding reserve_of may_yield
    reserve-by h = rw (one-test t.reserved t.free n None (reserve_kind t k n (policy c k t.class n)), ← tested, may, ← asked, is) h
