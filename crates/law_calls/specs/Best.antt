-- Laws of the list of the best: it is the best m of all that was offered; best first; equals in found order; what a full list admits. Assumes nothing.
use Rattle.std.specs.Prelude.{◌≡◌, refl, Bool, true, false, List, [], ◌∷◌, ◌++◌, ℕ, zero, suc, ◌<◌, ◌≤◌, length, take, ltb}
use Rattle.std.proofs.Common.{ap, ◌∙◌, ⊎_elim, append-nil, arith, take-take, take_at, lt-ltb, le-ltb}
use Rattle.rules.specs.Base.{ifte}
use Rattle.rules_calls.specs.Walking.{Candidate, rated, insert, admit}
use Rattle.law_rules.specs.Cases.{below_or}

-- the test of an insertion, and what it tells
worse : (k u key t : ℕ) (xs : List Candidate) → k < key → insert key t (rated k u ∷ xs) ≡ rated key t ∷ rated k u ∷ xs
unfolding insert ifte
worse k u key t xs h = rw (lt-ltb k key h)

other : (k u key t : ℕ) (xs : List Candidate) → key ≤ k → insert key t (rated k u ∷ xs) ≡ rated k u ∷ insert key t xs
unfolding insert ifte
other k u key t xs h = rw (le-ltb k key h)

-- ---- the best m of all that was offered

-- trees offered one after the other to an unbounded list
unfoldable pub inserts : List Candidate → List Candidate → List Candidate
inserts [] xs = xs
inserts (rated k t ∷ os) xs = inserts os (insert k t xs)

-- and to a list of the best m
unfoldable pub admits : ℕ → List Candidate → List Candidate → List Candidate
admits m [] xs = xs
admits m (rated k t ∷ os) xs = admits m os (admit m k t xs)

take-cons : (m : ℕ) (x : Candidate) (ys : List Candidate) → take m (x ∷ take m ys) ≡ take m (x ∷ ys)
take-cons zero x ys = refl
take-cons (suc m) x ys = ap (λ (r : List Candidate). x ∷ r) (take-take m (suc m) ys (omega arith))

-- what was dropped before stays dropped
take-insert : (m k t : ℕ) (xs : List Candidate) → take m (insert k t (take m xs)) ≡ take m (insert k t xs)
unfolding insert ifte
take-insert zero k t xs = refl
take-insert (suc m) k t [] = refl
take-insert (suc m) k t (rated j u ∷ xs) = go (ltb j k) (take-insert m k t xs)
  where
    go : (b : Bool) → take m (insert k t (take m xs)) ≡ take m (insert k t xs)
        → take (suc m) (ifte b (λ _. rated k t ∷ rated j u ∷ take m xs) (λ _. rated j u ∷ insert k t (take m xs)))
        ≡ take (suc m) (ifte b (λ _. rated k t ∷ rated j u ∷ xs) (λ _. rated j u ∷ insert k t xs))
    go true ih = ap (λ (r : List Candidate). rated k t ∷ r) (take-cons m (rated j u) xs)
    go false ih = ap (λ (r : List Candidate). rated j u ∷ r) ih

-- the list holds the first m of the whole list
pub admits-best : (m : ℕ) (os xs : List Candidate) → admits m os (take m xs) ≡ take m (inserts os xs)
unfolding admits inserts admit
admits-best m [] xs = refl
admits-best m (rated k t ∷ os) xs = rw (take-insert m k t xs) (admits-best m os (insert k t xs))

-- ---- best first

-- no rating is above the one before it, the first is at most top
unfoldable pub Sorted : ℕ → List Candidate → Type 0
Sorted top [] = Unit {0}
Sorted top (rated k t ∷ xs) = (k ≤ top) × Sorted k xs

insert-sorted : (top key t : ℕ) (xs : List Candidate) → Sorted top xs → key ≤ top → Sorted top (insert key t xs)
unfolding Sorted insert
insert-sorted top key t [] s h = (h, tt)
insert-sorted top key t (rated k u ∷ xs) s h =
    ⊎_elim (λ l. rw (worse k u key t xs l) (h, (omega arith, s.1))) (λ l. rw (other k u key t xs l) (s.0, insert-sorted k key t xs s.1 l)) (below_or k key)

take-sorted : (m top : ℕ) (xs : List Candidate) → Sorted top xs → Sorted top (take m xs)
unfolding Sorted
take-sorted zero top xs s = tt
take-sorted (suc m) top [] s = tt
take-sorted (suc m) top (rated k u ∷ xs) s = (s.0, take-sorted m k xs s.1)

pub admit-sorted : (m top key t : ℕ) (xs : List Candidate) → Sorted top xs → key ≤ top → Sorted top (admit m key t xs)
unfolding admit
admit-sorted m top key t xs s h = take-sorted m top (insert key t xs) (insert-sorted top key t xs s h)

-- ---- equals in found order

-- no rating is below key
unfoldable pub AtLeast : ℕ → List Candidate → Type 0
AtLeast key [] = Unit {0}
AtLeast key (rated k t ∷ xs) = (key ≤ k) × AtLeast key xs

-- a tree goes behind all that are as good
pub insert-behind : (key t : ℕ) (xs ys : List Candidate) → AtLeast key xs → insert key t (xs ++ ys) ≡ xs ++ insert key t ys
unfolding AtLeast
insert-behind key t [] ys a = refl
insert-behind key t (rated k u ∷ xs) ys a =
    other k u key t (xs ++ ys) a.0 ∙ ap (λ (r : List Candidate). rated k u ∷ r) (insert-behind key t xs ys a.1)

-- ---- a full list

-- it admits only a strictly better one
pub full-keeps : (m key t : ℕ) (xs : List Candidate) → length xs ≡ m → AtLeast key xs → admit m key t xs ≡ xs
unfolding admit insert
full-keeps m key t xs full a =
    let e : insert key t xs ≡ xs ++ rated key t ∷ [] = (rw (append-nil xs) at (insert-behind key t xs [] a)) in
    rw e (take_at xs (rated key t ∷ []) m full)

pub insert-length : (key t : ℕ) (xs : List Candidate) → length (insert key t xs) ≡ suc (length xs)
unfolding insert
insert-length key t [] = refl
insert-length key t (rated k u ∷ xs) = ⊎_elim (λ l. rw (worse k u key t xs l)) (λ l. rw (other k u key t xs l) (ap suc (insert-length key t xs))) (below_or k key)

insert-front : (key t k u : ℕ) (xs : List Candidate) → k < key → insert key t (xs ++ rated k u ∷ []) ≡ insert key t xs ++ rated k u ∷ []
unfolding insert
insert-front key t k u [] h = worse k u key t [] h
insert-front key t k u (rated j w ∷ xs) h =
    ⊎_elim (λ l. rw (worse j w key t xs l, worse j w key t (xs ++ rated k u ∷ []) l))
    (λ l. rw (other j w key t xs l, other j w key t (xs ++ rated k u ∷ []) l) (ap (λ (r : List Candidate). rated j w ∷ r) (insert-front key t k u xs h)))
    (below_or j key)

-- one that is better than its last, which it drops
pub full-drops : (m key t k u : ℕ) (xs : List Candidate) → suc (length xs) ≡ m → k < key → admit m key t (xs ++ rated k u ∷ []) ≡ insert key t xs
unfolding admit
full-drops m key t k u xs full h =
    rw (insert-front key t k u xs h) (take_at (insert key t xs) (rated k u ∷ []) m (insert-length key t xs ∙ full))
