-- Another local pays, and the last routes of a get, by the answers of their steps: laws of `steal_local` and `last_routes`. Assumes nothing.
use Rattle.std.specs.Prelude.{◌≡◌, true, false, List, ℕ, ◌/◌, Option, Some, None}
use Rattle.rules.specs.Base.{out}
use Rattle.rules.specs.Words.{Config, tree_rows, local_at}
use Rattle.rules.specs.Locals.{local_take, has_enough, steal_any}
use Rattle.rules.specs.declared.Held.TheVariants as Held
use Rattle.rules.specs.declared.Payer.{Payer}
use Rattle.rules.specs.declared.Request.{Request}
use Rattle.rules_calls.specs.declared.Got.{Got}
use Rattle.rules_calls.specs.State.{State, Way, st, size, index_of, missed, on_held, with_locals, ask_lower}
use Rattle.rules_calls.specs.FromLocals.{pay_from, steal_local, demote_local}
use Rattle.rules_calls.specs.Get.{last_routes}
use Rattle.law_calls.specs.Payers.{steal-enough}
use Rattle.get_ends.specs.Ends.{ends, else-ends, else-goes}

module _ (c : Config) (q : Request) (name : Option ℕ) (s : State) {w : Way} where
  -- nobody pays; the first with enough, pays from its slot, and its class is answered
  module _ {i n : ℕ} {p : Option Payer} (from : i ≡ index_of q.local) (much : n ≡ size q) (first : p ≡ steal_any c s.locals q.class i name n) where
    pub pay-nobody : p ≡ None → w ≡ missed s → w ≡ steal_local c q name s
    unfolding steal_local pay_from
    pay-nobody e h = rw (← from, ← much, ← first, e) h

    pub pay-row : {a : Payer} {row class : ℕ} {ls : List ℕ} → p ≡ Some a
        → (has_enough c.tree_order (local_at s.locals a.slot) name n ≡ true → out (Held.Row row) ls ≡ local_take c.tree_order s.locals a.slot name n)
        → w ≡ ask_lower c q name (row / tree_rows c.tree_order) row class (st s.trees ls s.bits s.looks s.tries)
        → class ≡ a.class → w ≡ steal_local c q name s
    unfolding steal_local pay_from on_held with_locals
    pay-row some paid h its = rw (← from, ← much, ← first, some, ← much, ← paid (steal-enough _ _ _ _ _ _ first some), ← its) h

-- steal from locals, then demote
module _ (c : Config) (q : Request) (name : Option ℕ) (s : State) {g : Got} {s1 : State} (first : out g s1 ≡ steal_local c q name s) where
  pub last-ends : ends g ≡ true → out g s1 ≡ last_routes c q name s
  unfolding last_routes
  last-ends e = rw (← first, else-ends _ _ _ e)

  pub last_goes : {w : Way} → ends g ≡ false → w ≡ demote_local c q name s1 → w ≡ last_routes c q name s
  unfolding last_routes
  last_goes e h = rw (← first, else-goes _ _ _ e) h
