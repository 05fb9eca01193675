-- What the rules are written with: branches, tests, sums, the first that passes, an answer with its words. Assumes nothing.
use Rattle.std.specs.Prelude.{Bool, true, false, List, [], ◌∷◌, ℕ, zero, suc, ◌+◌, Option, Some, None}

-- one of two values
abbrev pub pick : {A : Type 0} → Bool → A → A → A
pick true a b = a
pick false a b = b

-- both tests pass
abbrev pub both : Bool → Bool → Bool
both true b = b
both false b = false

-- one of the tests passes
abbrev pub either : Bool → Bool → Bool
either true b = true
either false b = b

-- 1 for true
abbrev pub bit_of : Bool → ℕ
bit_of true = 1
bit_of false = 0

-- one of two ways on; neither is gone before the test
unfoldable pub ifte : {A : Type 0} → Bool → (Unit {0} → A) → (Unit {0} → A) → A
ifte true a b = a tt
ifte false a b = b tt

-- the test passes at every number below n
unfoldable pub all_below : ℕ → (ℕ → Bool) → Bool
all_below zero f = true
all_below (suc n) f = both (all_below n f) (f n)

-- the sum of f over the n numbers from a
unfoldable pub sum : (ℕ → ℕ) → ℕ → ℕ → ℕ
sum f a zero = 0
sum f a (suc n) = sum f a n + f (a + n)

-- the list of f at the n numbers from a
unfoldable pub listed : (ℕ → ℕ) → ℕ → ℕ → List ℕ
listed f a zero = []
listed f a (suc n) = f a ∷ listed f (suc a) n

-- the first answer, or else the second
abbrev pub or_found : Option ℕ → Option ℕ → Option ℕ
or_found (Some i) y = Some i
or_found None y = y

-- the first of the n numbers from a that passes the test t
unfoldable pub first_in : (ℕ → Bool) → ℕ → ℕ → Option ℕ
first_in t a zero = None
first_in t a (suc n) = or_found (first_in t a n) (pick (t (a + n)) (Some (a + n)) None)

-- an answer, and the words as it leaves them
pub data Out (A W : Type 0) : Type 0 where
  out : A → W → Out A W
