-- A number none of whose digits is set, and one all of whose n digits are. Assumes nothing.
use Rattle.std.specs.Prelude.{◌≡◌, refl, Bool, true, false, ℕ, zero, suc, ◌+◌, ◌-◌, ◌*◌, ◌/◌, ◌%◌, ◌^◌, ◌<◌, ◌≤◌, eqb}
use Rattle.std.proofs.Common.{sym, ap, ◌∙◌, pow-suc, arith, eqb-true, eq-eqb, ne_eqb}
use Rattle.std.specs.Int.Count.{ones, ones_step, ones-ones}
use Rattle.std.proofs.lemmas.Nat.{ones-le}
use Rattle.std.proofs.lemmas.Bool.{eqb-false}

pub ones_none : (k x : ℕ) → x < 2 ^ k → ones x ≡ 0 → x ≡ 0
ones_none zero x h e = omega arith
ones_none (suc k) x h e =
    let p : x < 2 ^ k * 2 = rw pow-suc at h in
    let s : ones x ≡ x % 2 + ones (x / 2) = ones_step x in
    let r : x / 2 ≡ 0 = ones_none k (x / 2) (omega arith) (omega arith) in
    omega arith

pub ones-every : (k x : ℕ) → x < 2 ^ k → ones x ≡ k → x + 1 ≡ 2 ^ k
ones-every zero x h e = omega arith
ones-every (suc k) x h e =
    let p : x < 2 ^ k * 2 = rw pow-suc at h in
    let s : ones x ≡ x % 2 + ones (x / 2) = ones_step x in
    let l : ones (x / 2) ≤ k = ones-le k (x / 2) (omega arith) in
    let r : x / 2 + 1 ≡ 2 ^ k = ones-every k (x / 2) (omega arith) (omega arith) in
    rw pow-suc (omega arith)

pub ones-zero : ones 0 ≡ 0
unfolding ones
ones-zero = refl

-- a test for equality, on either side of an equivalence
pub eqb_same : (a b x y : ℕ) → (a ≡ b → x ≡ y) → (x ≡ y → a ≡ b) → eqb a b ≡ eqb x y
eqb_same a b x y f g = case (eqb a b) refl
  where
    case : (t : Bool) → eqb a b ≡ t → eqb a b ≡ eqb x y
    case true e = e ∙ sym (eq-eqb x y (f (eqb-true a b e)))
    case false e = e ∙ sym (ne_eqb x y (λ q. eqb-false a b e (g q)))

pub test-none : (k x : ℕ) → x < 2 ^ k → eqb x 0 ≡ eqb (ones x) 0
test-none k x h = eqb_same x 0 (ones x) 0 (λ e. ap ones e ∙ ones-zero) (ones_none k x h)

pub test-every : (k x : ℕ) → x < 2 ^ k → eqb x (2 ^ k - 1) ≡ eqb (ones x) k
test-every k x h = eqb_same x (2 ^ k - 1) (ones x) k (λ e. ap ones e ∙ ones-ones k) (λ e. let r : x + 1 ≡ 2 ^ k = ones-every k x h e in omega arith)
