-- The state and what a start is lent: where that is left as it was found, so is the state; a start that is lent the state's own three lists, or three others. Assumes nothing.
use Rattle.std.specs.Prelude.{◌≡◌, refl, Bool, List, ℕ, Result, ⊤}
use Rattle.std.proofs.Common.{ap}
use Rattle.rules.specs.declared.Header.{Header}
use Rattle.rules_calls.specs.Promises.{Words, StartPromise}
use Rattle.thm_complete.specs.Complete.{same-words}
use Rattle.thm_sequence.specs.Demand.{Lent, own, other, starts, found, left, Untouched, found_in, left_in, UntouchedIn, AsFound, Promised}
use Rattle.rules_calls.specs.declared.Refusal.{Refusal}

-- ---- lists that are left as they were found

-- a list of the state is as it was
list-stays : (x : Lent) (xs ys : List ℕ) → left x ys ≡ found x xs → Untouched x xs ys → ys ≡ xs
list-stays own xs ys p u = p
list-stays (other before after) xs ys p u = u

-- and so is another
list_left : (x : Lent) (xs ys : List ℕ) → left x ys ≡ found x xs → AsFound x
list_left own xs ys p = tt
list_left (other before after) xs ys p = p

module _ (t l b : Lent) (s e : Words) (same : left_in t l b e ≡ found_in t l b s) where
  -- the state, whichever of its lists are lent
  pub state-stays : UntouchedIn t l b s e → e ≡ s
  state-stays (u, (v, w)) =
      same-words e s
      (list-stays t s.trees e.trees (ap (λ (x : Words). x.trees) same) u)
      (list-stays l s.locals e.locals (ap (λ (x : Words). x.locals) same) v)
      (list-stays b s.bits e.bits (ap (λ (x : Words). x.bits) same) w)

  -- the other lists
  pub others-left : AsFound t × (AsFound l × AsFound b)
  others-left = (
    list_left t s.trees e.trees (ap (λ (x : Words). x.trees) same),
    (
      list_left l s.locals e.locals (ap (λ (x : Words). x.locals) same),
      list_left b s.bits e.bits (ap (λ (x : Words). x.bits) same),
    ),
  )

-- ---- a start is a step of the chain by its promise alone

-- lent the state's own lists
pub own-start : (h d : Header) (pairs table : List ℕ) (all_free : Bool) (s : Words) (r : Result ⊤ Refusal) (e : Words)
    → StartPromise d table all_free s r e → Promised h pairs (starts d table all_free own own own r) s e
own-start h d pairs table all_free s r e P = (P, (tt, (tt, tt)))

-- lent three others
pub other-start : (h d : Header) (pairs table : List ℕ) (all_free : Bool) (x : Words) (r : Result ⊤ Refusal) (y s : Words) → StartPromise d table all_free x r y
    → Promised h pairs (starts d table all_free (other x.trees y.trees) (other x.locals y.locals) (other x.bits y.bits) r) s s
other-start h d pairs table all_free x r y s P = (P, (refl, (refl, refl)))
