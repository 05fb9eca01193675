-- A take from a local that has enough: it is paid. Assumes nothing.
use Rattle.std.specs.Prelude.{◌≡◌, refl, Bool, true, false, List, ℕ, ◌-◌, leb, set, Option}
use Rattle.std.proofs.Common.{arith}
use Rattle.rules.specs.Base.{pick, out}
use Rattle.rules.specs.Words.{local_at, local_word}
use Rattle.rules.specs.Locals.{reservation, in_tree, local_take, has_enough}
use Rattle.rules.specs.declared.Held.{Held}

passed : {A : Type 0} (a b d : Bool) (x y z : A) → pick a (pick b d false) false ≡ true → pick a (pick b (pick d x y) y) z ≡ x
passed true true true x y z e = refl
passed true true false x y z e = absurd (let w : ◌≡◌ {A = ℕ} 0 1 = cc in omega arith)
passed true false d x y z e = absurd (let w : ◌≡◌ {A = ℕ} 0 1 = cc in omega arith)
passed false b d x y z e = absurd (let w : ◌≡◌ {A = ℕ} 0 1 = cc in omega arith)

-- the answer is its row, and it holds so many less
pub take-paid : (z : ℕ) (ls : List ℕ) (j : ℕ) (name : Option ℕ) (n : ℕ) → has_enough z (local_at ls j) name n ≡ true
    → local_take z ls j name n ≡ out (Held.Row (local_at ls j).row) (set ls j (local_word (reservation (local_at ls j).row ((local_at ls j).free - n))))
unfolding has_enough local_take
take-paid z ls j name n h = passed (local_at ls j).present (in_tree z (local_at ls j).row name) (leb n (local_at ls j).free) _ _ _ h
