-- Numbers as text: decimal, hexadecimal, padded. Assumes nothing.
use Rattle.std.specs.Prelude.{◌≡◌, Bool, true, false, List, ◌++◌, ℕ, zero, suc, ◌+◌, ◌-◌, ◌^◌, ◌≤◌, ◌<◌, min, max, ltb, length}
use Rattle.std.proofs.Common.{sym, ap, subst, ◌∙◌, ⊎_elim, eq-or-lt_of_le, le_trans, not-le_of_lt, lt_of_not-le, le_of_suc-le-suc, arith, lt-ltb, le-ltb}
use Rattle.std.proofs.Math.Nat.{pow-le-pow_right, zero-sub}
use Rattle.io.specs.Digits.{last_digits, IsDigitCount}
use Rattle.text_bytes.specs.Text.{blanks}

-- how many digits in base b hold n: the least number from k on, of at most `more` further ones
unfoldable pub places_if : Bool → ℕ → ℕ → ℕ
places_if true k next = k
places_if false k next = next

unfoldable pub places : ℕ → ℕ → ℕ → ℕ → ℕ
places zero b k n = k
places (suc more) b k n = places_if (ltb n (b ^ k)) k (places more b (suc k) n)

-- a number in decimal digits
unfoldable pub decimal : ℕ → List ℕ
decimal n = last_digits 10 (places 20 10 1 n) n

-- a number in at least `width` hexadecimal digits
unfoldable pub hexadecimal : ℕ → ℕ → List ℕ
hexadecimal width n = last_digits 16 (places 16 16 (min (max width 1) 16) n) n

-- a number in decimal digits, spaces before it up to a width
unfoldable pub padded : ℕ → ℕ → List ℕ
padded width n = blanks (width - length (decimal n)) ++ decimal n

-- the fewest digits that hold n are that many
here : (more b k n r : ℕ) → IsDigitCount b k n r → k ≡ r → r ≡ places (suc more) b k n
unfolding places places_if
here more b k n r f e =
    sym e ∙ sym (ap (λ (x : Bool). places_if x k (places more b (suc k) n)) (lt-ltb n (b ^ k) (subst (λ (j : ℕ). n < b ^ j) (sym e) f.1)))

further : (more b k n r : ℕ) → 0 < b → IsDigitCount b k n r → k < r → r ≡ places more b (suc k) n → r ≡ places (suc more) b k n
unfolding places places_if
further more b k n r p f l e =
    e
    ∙ sym (ap (λ (x : Bool). places_if x k (places more b (suc k) n))
    (le-ltb n (b ^ k) (le_trans (pow-le-pow_right p (omega (arith, l))) (f.2 l))))

none : (b k n r : ℕ) → k ≤ r → r ≤ k + 0 → r ≡ places zero b k n
unfolding places
none b k n r l m = omega arith

pub places-fewest : (more b k n r : ℕ) → 0 < b → r ≤ k + more → IsDigitCount b k n r → r ≡ places more b k n
places-fewest zero b k n r p m f = none b k n r f.0 m
places-fewest (suc more) b k n r p m f =
    ⊎_elim
    (here more b k n r f)
    (λ (l : k < r). further more b k n r p f l (places-fewest more b (suc k) n r p (omega arith) (l, f.1, λ _. f.2 l)))
    (eq-or-lt_of_le f.0)

-- a number below b ^ m has at most m digits
few : (b k n r m : ℕ) → 0 < b → IsDigitCount b k n r → n < b ^ m → k ≤ m → r ≤ m
few b k n r m p f h l = le_of_suc-le-suc (lt_of_not-le past) where
  past : suc m ≤ r → ⊥
  past g = not-le_of_lt h (le_trans (pow-le-pow_right p (omega (arith, g))) (f.2 (omega (arith, g))))

-- the digits that are written are the number's text
pub decimal-is : (n r : ℕ) → IsDigitCount 10 1 n r → n < 2 ^ 64 → last_digits 10 r n ≡ decimal n
unfolding decimal
decimal-is n r f l =
    let m : r ≤ 20 = few 10 1 n r 20 (omega arith) f (omega arith) (omega arith) in
    ap (λ (k : ℕ). last_digits 10 k n) (places-fewest 20 10 1 n r (omega arith) (omega arith) f)

pub hexadecimal-is : (width n r : ℕ) → IsDigitCount 16 (min (max width 1) 16) n r → n < 2 ^ 64 → last_digits 16 r n ≡ hexadecimal width n
unfolding hexadecimal
hexadecimal-is width n r f l =
    let m : r ≤ 16 = few 16 (min (max width 1) 16) n r 16 (omega arith) f (omega arith) (omega arith) in
    ap (λ (k : ℕ). last_digits 16 k n) (places-fewest 16 16 (min (max width 1) 16) n r (omega arith) (omega arith) f)

pub padded-is : (width n k s : ℕ) (ds : List ℕ) → ds ≡ decimal n → s ≡ width - k → k ≡ length ds → blanks s ++ ds ≡ padded width n
unfolding padded
padded-is width n k s ds e f g =
    ap (λ (j : ℕ). blanks j ++ ds) (f ∙ ap (λ (j : ℕ). width - j) g) ∙ ap (λ (l : List ℕ). blanks (width - length l) ++ l) e

-- no width: the number alone
pub padded-alone : (n : ℕ) → padded 0 n ≡ decimal n
unfolding padded blanks
padded-alone n = ap (λ (k : ℕ). blanks k ++ decimal n) (zero-sub (length (decimal n)))
