-- The start of a search after the own local. A tree that a failed own reservation gives comes out of a local's word, and is small. Assumes nothing.
use Rattle.std.specs.Prelude.{◌≡◌, true, false, List, get_or, ltb, Option}
use Rattle.std.proofs.Math.Path.{refl}
use Rattle.std.proofs.Common.{sym, subst, true≢false, div-le_self, mul-le-mul_right, le_trans, arith}
use Prim.Native.Nat.{ℕ, zero, suc, ◌-◌, ◌*◌, ◌/◌, ◌^◌, ◌<◌, ◌≤◌}
use Rattle.rules.specs.Base.{out}
use Rattle.rules.specs.Words.{Config, config, local_of}
use Rattle.rules.specs.declared.Header.{Header}
use Rattle.rules.specs.declared.Request.{Request}
use Rattle.rules_calls.specs.declared.Got.{Got}
use Rattle.rules_calls.specs.State.{State, Way, size, done, missed, missed_at}
use Rattle.rules_calls.specs.Get.{or_from}
use Rattle.get_ends.specs.Ends.{ends}
use Rattle.rules_calls.specs.FromLocals.{take_by, top_by, top_up, get_local}
use Rattle.law_calls.specs.Steps.{ifte-ind, held-ind, sync-ind, put-ind, found-ind}

-- the tree at which a route was empty
abbrev Small : Way → Type 0
Small (out (Got.Done f k) s) = Unit {0}
Small (out Got.Missed s) = Unit {0}
Small (out (Got.MissedAt t) s) = t < 2 ^ 44
Small (out Got.Stuck s) = Unit {0}

-- the tree of a present reservation that failed, or else the start as given
unfoldable pub start_after : ℕ → Got → ℕ
start_after start (Got.Done f k) = start
start_after start Got.Missed = start
start_after start (Got.MissedAt t) = t
start_after start Got.Stuck = start

after_small : (start : ℕ) (g : Got) (s : State) → start < 2 ^ 44 → Small (out g s) → start_after start g < 2 ^ 44
unfolding start_after
after_small start (Got.Done f k) s r x = r
after_small start Got.Missed s r x = r
after_small start (Got.MissedAt t) s r x = x
after_small start Got.Stuck s r x = r

module _ (start : ℕ) (s : State) (next : ℕ → State → Way) where
  pub from-ends : (g : Got) → ends g ≡ true → or_from start (out g s) next ≡ out g s
  unfolding ends or_from
  from-ends (Got.Done f k) e = refl
  from-ends Got.Missed e = absurd (true≢false (sym e))
  from-ends (Got.MissedAt t) e = absurd (true≢false (sym e))
  from-ends Got.Stuck e = refl

  pub from_goes : (g : Got) → ends g ≡ false → or_from start (out g s) next ≡ next (start_after start g) s
  unfolding ends or_from start_after
  from_goes (Got.Done f k) e = absurd (true≢false e)
  from_goes Got.Missed e = refl
  from_goes (Got.MissedAt t) e = refl
  from_goes Got.Stuck e = absurd (true≢false e)

row_small : (w : ℕ) → (local_of w).row / 32 < 2 ^ 44
unfolding local_of
row_small w = omega arith

module _ (h : Header) (pairs : List ℕ) (q : Request) (name : Option ℕ) (j : ℕ) (order : q.order ≤ 11) where
  abbrev c : Config
  c = config h pairs

  take-small : (up : ℕ → ℕ → State → Way) → ((row free : ℕ) (s : State) → row / 32 < 2 ^ 44 → Small (up row free s)) → (s : State) → Small (take_by up c q name j s)
  unfolding take_by done missed missed_at
  take-small up g s =
      held-ind Small s 11 j name (size q) _ up _
      (λ _ _ _. found-ind Small _ 11 _ q.order name _ _ (omega arith) (omega arith) order (λ _ _. tt) (λ _. row_small (get_or s.locals j 0)))
      (λ _ _. g _ _ s (row_small (get_or s.locals j 0)))
      (λ _. tt)

  top_small : (k row free : ℕ) (s : State) → row / 32 < 2 ^ 44 → Small (top_up k c q name j row free s)
  unfolding top_up top_by missed_at
  top_small zero row free s r = r
  top_small (suc k) row free s r =
      ifte-ind Small (ltb (size q) free) _ _ (λ _. r) (λ _.
      sync-ind Small s (row / 32) (size q - free) _ _
      (λ _ _. put-ind Small _ 11 j (row / 32) _ _ _ (λ _ _. take-small (top_up k c q name j) (top_small k) _) (λ _. r))
      (λ _. r))

  local-small : (k : ℕ) (s : State) → Small (get_local k c q name j s)
  unfolding get_local
  local-small k s = take-small (top_up k c q name j) (top_small k) s

  -- so is the start after it
  pub start_small : (k start : ℕ) (g : Got) (s e : State) → out g e ≡ get_local k c q name j s → start < 2 ^ 44 → start_after start g < 2 ^ 44
  start_small k start g s e p r = after_small start g e r (subst Small (sym p) (local-small k s))

-- the start tree of a local
pub start_fits : (n m i : ℕ) → n ≤ 1024 → i < 2 ^ 32 → n / m * i < 2 ^ 44
start_fits n m i h l =
    let d : n / m ≤ n = div-le_self n m in
    let e : n / m * i ≤ 1024 * i = mul-le-mul_right i (le_trans d h) in
    omega arith
