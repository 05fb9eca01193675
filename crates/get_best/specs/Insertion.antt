-- The insertion into the words is insert-and-keep-m on the list that they hold; what the loop of `admit` keeps. Assumes nothing.
use Rattle.std.specs.Prelude.{◌≡◌, Bool, true, false, length, set, get_or, take, ltb}
use Rattle.std.proofs.Math.Path.{refl}
use Rattle.std.proofs.Common.{ap, arith, le_of_suc-le-suc, add-one, length-set}
use mathlib.Core.List.{List, [], ◌∷◌}
use Prim.Native.Nat.{ℕ, zero, suc, ◌≤◌, ◌<◌, ◌/◌, ◌%◌, ◌+◌, ◌-◌, ◌*◌, ◌^◌}
use borrow.Author.Tests.{lt-ltb, le-ltb}
use Rattle.rules.specs.Base.{ifte}
use Rattle.rules_calls.specs.Walking.{Candidate, rated, insert, admit}
use Rattle.get_best.specs.List.{list_of}

-- of the first k places: x is put before the first word that is rated less, and the last falls out; once inside, all shift
unfoldable pub inserted : ℕ → Bool → ℕ → List ℕ → List ℕ
inserted zero f x l = l
inserted (suc k) f x [] = []
inserted (suc k) true x (y ∷ l) = x ∷ inserted k true y l
inserted (suc k) false x (y ∷ l) = ifte (ltb (y / 2 ^ 32) (x / 2 ^ 32)) (λ _. x ∷ inserted k true y l) (λ _. y ∷ inserted k false x l)

-- a shift is what a full list keeps of one word more
shift : (k y : ℕ) (l : List ℕ) → k ≤ length l → list_of k (inserted k true y l) ≡ take k (list_of (suc k) (y ∷ l))
unfolding inserted list_of
shift zero y l h = refl
shift (suc k) y [] h = absurd (omega arith)
shift (suc k) zero (z ∷ l) h = refl
shift (suc k) (suc y) (z ∷ l) h = ap (λ (r : List Candidate). rated (suc y / 2 ^ 32) (suc y % 2 ^ 32) ∷ r) (shift k z l (le_of_suc-le-suc h))

-- in words and in the list: x ≡ key × 2^32 + t
module _ (key t : ℕ) (some : 0 < key) (low : t < 2 ^ 32) where
  word-key : (key * 2 ^ 32 + t) / 2 ^ 32 ≡ key
  word-key = omega arith

  head : (k : ℕ) (l : List ℕ) → list_of (suc k) ((key * 2 ^ 32 + t) ∷ l) ≡ rated key t ∷ list_of k l
  unfolding list_of
  head k l = go (key * 2 ^ 32 + t) (omega arith) word-key (omega arith)
    where
      go : (w : ℕ) → 0 < w → w / 2 ^ 32 ≡ key → w % 2 ^ 32 ≡ t → list_of (suc k) (w ∷ l) ≡ rated key t ∷ list_of k l
      go zero h p q = absurd (omega arith)
      go (suc w) h p q = rw (p, q)

  -- x is put in before the word y
  before : (m y : ℕ) (ws : List ℕ) → m ≤ length ws
      → list_of (suc m) ((key * 2 ^ 32 + t) ∷ inserted m true y ws) ≡ rated key t ∷ take m (list_of (suc m) (y ∷ ws))
  before m y ws h = rw (head, shift m y ws h)

  pub inserted-is : (m : ℕ) (ws : List ℕ) → m ≤ length ws → list_of m (inserted m false (key * 2 ^ 32 + t) ws) ≡ admit m key t (list_of m ws)
  unfolding inserted list_of admit insert ifte
  inserted-is zero ws h = refl
  inserted-is (suc m) [] h = absurd (omega arith)
  inserted-is (suc m) (zero ∷ ws) h = rw (word-key, lt-ltb 0 key some) (before m 0 ws (le_of_suc-le-suc h))
  inserted-is (suc m) (suc y ∷ ws) h = rw word-key (go (ltb (suc y / 2 ^ 32) key) (inserted-is m ws (le_of_suc-le-suc h)))
    where
      x : ℕ
      x = key * 2 ^ 32 + t

      old : Candidate
      old = rated (suc y / 2 ^ 32) (suc y % 2 ^ 32)

      go : (b : Bool) → list_of m (inserted m false x ws) ≡ admit m key t (list_of m ws)
          → list_of (suc m) (ifte b (λ _. x ∷ inserted m true (suc y) ws) (λ _. suc y ∷ inserted m false x ws))
          ≡ take (suc m) (ifte b (λ _. rated key t ∷ old ∷ list_of m ws) (λ _. old ∷ insert key t (list_of m ws)))
      go true ih = before m (suc y) ws (le_of_suc-le-suc h)
      go false ih = ap (λ (r : List Candidate). old ∷ r) ih

-- the insertion from place k on
unfoldable pub inserted_from : ℕ → ℕ → Bool → ℕ → List ℕ → List ℕ
inserted_from zero m f x s = inserted m f x s
inserted_from (suc k) m f x [] = []
inserted_from (suc k) m f x (y ∷ l) = y ∷ inserted_from k m f x l

-- from the first place on it is the whole
pub inserted-first : (m x : ℕ) (s : List ℕ) (f : Bool) → inserted_from 0 m f x s ≡ inserted m f x s
unfolding inserted_from
inserted-first m x s f = refl

-- one place on: inside, a word swapped, a word kept
inserted-in : (k m x : ℕ) (s : List ℕ) → k < length s → inserted_from k (suc m) true x s ≡ inserted_from (suc k) m true (get_or s k 0) (set s k x)
unfolding inserted_from inserted
inserted-in k m x [] h = absurd (omega arith)
inserted-in zero m x (y ∷ l) h = refl
inserted-in (suc k) m x (y ∷ l) h = ap (λ (r : List ℕ). y ∷ r) (inserted-in k m x l (le_of_suc-le-suc h))

inserted-swap : (k m x : ℕ) (s : List ℕ) → k < length s → ltb (get_or s k 0 / 2 ^ 32) (x / 2 ^ 32) ≡ true →
    inserted_from k (suc m) false x s ≡ inserted_from (suc k) m true (get_or s k 0) (set s k x)
unfolding inserted_from inserted ifte
inserted-swap k m x [] h t = absurd (omega arith)
inserted-swap zero m x (y ∷ l) h t = rw t
inserted-swap (suc k) m x (y ∷ l) h t = ap (λ (r : List ℕ). y ∷ r) (inserted-swap k m x l (le_of_suc-le-suc h) t)

inserted-keep : (k m x : ℕ) (s : List ℕ) → k < length s → ltb (get_or s k 0 / 2 ^ 32) (x / 2 ^ 32) ≡ false →
    inserted_from k (suc m) false x s ≡ inserted_from (suc k) m false x s
unfolding inserted_from inserted ifte
inserted-keep k m x [] h t = absurd (omega arith)
inserted-keep zero m x (y ∷ l) h t = rw t
inserted-keep (suc k) m x (y ∷ l) h t = ap (λ (r : List ℕ). y ∷ r) (inserted-keep k m x l (le_of_suc-le-suc h) t)

-- past the last place nothing changes
pub inserted-end : (k x : ℕ) (s : List ℕ) (f : Bool) → inserted_from k 0 f x s ≡ s
unfolding inserted_from inserted
inserted-end zero x s f = refl
inserted-end (suc k) x [] f = refl
inserted-end (suc k) x (y ∷ l) f = ap (λ (r : List ℕ). y ∷ r) (inserted-end k x l f)

-- one turn of the loop, in each of its three ways
module _ (k m moving : ℕ) (f : Bool) (s : List ℕ) {moving' : ℕ} {f' : Bool} {s' G : List ℕ} (h : k < m) (most : m ≤ 8) (len : length s ≡ 8)
    (inv : inserted_from k (m - k) f moving s ≡ G) where
  pub turn_in : f ≡ true → s' ≡ set s k moving → moving' ≡ get_or s k 0 → f' ≡ f →
      (length s' ≡ 8) × (inserted_from (k + 1) (m - (k + 1)) f' moving' s' ≡ G)
  turn_in t es ec ef =
      let e : m - k ≡ suc (m - (k + 1)) = omega arith in
      let b : k < length s = omega arith in
      (rw (es, length-set) len, rw (ef, es, ec, t, add-one k, ← inserted-in k (m - suc k) moving s b) (rw (e, t, add-one k) at inv))

  pub turn-swap : f ≡ false → get_or s k 0 / 2 ^ 32 < moving / 2 ^ 32 → s' ≡ set s k moving → moving' ≡ get_or s k 0 → f' ≡ true →
      (length s' ≡ 8) × (inserted_from (k + 1) (m - (k + 1)) f' moving' s' ≡ G)
  turn-swap t lt es ec ef =
      let e : m - k ≡ suc (m - (k + 1)) = omega arith in
      let b : k < length s = omega arith in
      (rw (es, length-set) len, rw (ef, es, ec, add-one k, ← inserted-swap k (m - suc k) moving s b (lt-ltb _ _ lt)) (rw (e, t, add-one k) at inv))

  pub turn-keep : f ≡ false → moving / 2 ^ 32 ≤ get_or s k 0 / 2 ^ 32 → s' ≡ s → moving' ≡ moving → f' ≡ f →
      (length s' ≡ 8) × (inserted_from (k + 1) (m - (k + 1)) f' moving' s' ≡ G)
  turn-keep t le es ec ef =
      let e : m - k ≡ suc (m - (k + 1)) = omega arith in
      let b : k < length s = omega arith in
      (rw es len, rw (ef, es, ec, t, add-one k, ← inserted-keep k (m - suc k) moving s b (le-ltb _ _ le)) (rw (e, t, add-one k) at inv))
