-- The board's configuration: a start accepts it, and no get of the loader is refused for its arguments. Assumes nothing.
use Rattle.std.specs.Prelude.{◌≡◌, refl, true, false, List, ℕ, zero, suc, ◌+◌, ◌^◌, ◌≤◌, ◌<◌, replicate, ltb, Some}
use Rattle.std.proofs.Common.{sym, subst, arith, pow_mono, le-ltb}
use Rattle.std.proofs.Math.Nat.{zero-mod}
use Rattle.rules.specs.Base.{both, ifte, all_below, sum}
use Rattle.rules.specs.Words.{Config, config, tree_count, configured, locals_of, local_count}
use Rattle.rules.specs.Policy.{pair_of, kind_of, cut_of, kind_at, good, pair_formed, pair_accepted, table_formed, rules_at, table_rules, frames_accepted, places_accepted, default_accepted, accepted}
use Rattle.rules.specs.declared.Header.{Header}
use Rattle.rules_calls.specs.Standing.{lengths_exact}
use Rattle.rules_calls.specs.Calls.{refuse_local, refuse_class, refusal, start}
use Rattle.rules_calls.specs.Examples.{table_t}

-- the server's default table on f frames: table T of 01, two locals a class, default 1
abbrev pub board : ℕ → Config
board f = table_t f 2 1

-- header, table and lengths as a start accepts them
abbrev pub Ready : Config → List ℕ → List ℕ → List ℕ → Type 0
Ready c t l b = both (accepted c) (lengths_exact c t l b) ≡ true

-- the board of 65,536 frames, and the small one of 2,048
pub ready-board : Ready (board 65536) (replicate 32 0) (replicate 4 0) (replicate 1024 0)
unfolding all_below sum tree_count configured locals_of local_count pair_of kind_of cut_of kind_at good pair_formed pair_accepted table_formed rules_at table_rules frames_accepted places_accepted default_accepted accepted lengths_exact
ready-board = refl

pub ready-small : Ready (board 2048) (replicate 1 0) (replicate 4 0) (replicate 32 0)
unfolding all_below sum tree_count configured locals_of local_count pair_of kind_of cut_of kind_at good pair_formed pair_accepted table_formed rules_at table_rules frames_accepted places_accepted default_accepted accepted lengths_exact
ready-small = refl

-- the same of a header and a table that are the board's
pub ready-from : (f : ℕ) (h : Header) (pairs t l b : List ℕ) → pairs ≡ (board f).pairs → config h (board f).pairs ≡ board f
    → Ready (board f) t l b → Ready (config h pairs) t l b
ready-from f h pairs t l b p q r =
    subst (λ (x : List ℕ). Ready (config h x) t l b) (sym p)
    (subst (λ (c : Config). Ready c t l b) (sym q) r)

-- then a start is Done
pub starts : (c : Config) (t l b : List ℕ) → Ready c t l b → (start c true t l b).number ≡ 0
unfolding start ifte
starts c t l b r = rw r

own : (f o k i : ℕ) → k < 2 → i < 2 → refuse_class (board f) (record { order = o; class = k; local = Some i }) ≡ 0
unfolding refuse_class refuse_local configured locals_of
own f o zero zero hk hi = refl
own f o zero (suc zero) hk hi = refl
own f o (suc zero) zero hk hi = refl
own f o (suc zero) (suc zero) hk hi = refl
own f o zero (suc (suc i)) hk hi = omega arith
own f o (suc zero) (suc (suc i)) hk hi = omega arith
own f o (suc (suc k)) i hk hi = omega arith

-- a get with no name, of order up to 11, for class 0 or 1 with local 0 or 1, is not refused for its arguments
pub fits : (f o k i : ℕ) → 2048 ≤ f → o < 12 → k < 2 → i < 2
    → refusal (board f) (record { order = o; class = k; local = Some i }) 0 ≡ 0
unfolding refusal ifte
fits f o k i hf ho hk hi =
    let low : ltb 11 o ≡ false = le-ltb 11 o (omega arith) in
    let size : 2 ^ o ≤ 2048 = pow_mono {i = o} {j = 11} (omega arith) in
    let within : ltb f (0 + 2 ^ o) ≡ false = le-ltb f (0 + 2 ^ o) (omega arith) in
    rw (low, within, zero-mod (2 ^ o)) (own f o k i hk hi)
