-- The looks of a walk are its steps: each step that was done is one look, and nothing else is. Assumes nothing.
use Rattle.std.specs.Prelude.{◌≡◌, refl, List, eqb, Option, None}
use Prim.Native.Nat.{ℕ, zero, suc, ◌+◌, ◌*◌}
use native.Mathlib.Omega.{arith}
use Rattle.rules.specs.Base.{Out, out}
use Rattle.rules.specs.Words.{Config, tree_rows, entry_at}
use Rattle.rules.specs.Entries.{entry_steal, entry_reserve}
use Rattle.rules.specs.Locals.{local_swap}
use Rattle.rules.specs.Lower.{lower_get}
use Rattle.rules.specs.declared.Request.{Request}
use Rattle.rules_calls.specs.declared.Got.{Got}
use Rattle.rules_calls.specs.declared.Walk.{Walk}
use Rattle.rules_calls.specs.State.{State, Way, size, done, missed, stuck, with_trees, with_locals, with_try, with_look, ask_lower, put_entry}
use Rattle.rules_calls.specs.Walking.{Candidate, Sight, at_once, walk_tree, rate, steal_global, reserved_tree, reserve_or_steal, access, tried, offered, visit, on_sight, walk_steps}
use Rattle.law_calls.specs.Steps.{ifte-ind}
use Rattle.law_calls.specs.Ways.{took-any, taken-any, found-any, swap_any, unreserve-any, unreserve_local-any}

-- the looks of an answer
abbrev pub looks_of : Way → ℕ
looks_of (out g s) = s.looks

abbrev pub sight_looks : Out Got Sight → ℕ
sight_looks (out g x) = x.state.looks

-- ---- a step of a route is no look: n looks before it, n after

module _ (c : Config) (q : Request) (n : ℕ) where
  -- there are n looks
  abbrev Same : Way → Type 0
  Same w = looks_of w ≡ n

  asked : (name : Option ℕ) (t row k : ℕ) (s : State) → s.looks ≡ n → Same (ask_lower c q name t row k s)
  unfolding ask_lower done missed put_entry with_trees with_try
  asked name t row k s e = found-any Same (lower_get c.tree_order s.bits row q.order name) s _ _ (λ f b. e) (λ b. e)

  kept : (j t old : ℕ) (s : State) → s.looks ≡ n → Same (reserved_tree c q j t old s)
  unfolding reserved_tree done missed stuck with_trees with_locals with_try
  kept j t old s e =
      found-any Same (lower_get c.tree_order s.bits (t * tree_rows c.tree_order) q.order None) s _ _
      (λ f b. swap_any Same (local_swap s.locals j _) (with_try s b) _
      (λ l ls. unreserve_local-any Same c l q.class (with_locals (with_try s b) ls) _ _ (λ ts. e) (λ ts. e)))
      (λ b. unreserve-any Same c t q.class old (with_try s b) _ _ (λ ts. e) (λ ts. e))

  reserves : (j t : ℕ) (s : State) → s.looks ≡ n → Same (reserve_or_steal c q j t s)
  unfolding reserve_or_steal missed with_trees
  reserves j t s e =
      taken-any Same (entry_reserve c s.trees t q.class (size q)) s _ _ _
      (λ x ts. asked None t _ _ (with_trees s ts) e) (λ f ts. kept j t f (with_trees s ts) e) (λ ts. e)

  steals : (name : Option ℕ) (t : ℕ) (s : State) → s.looks ≡ n → Same (steal_global c q name t s)
  unfolding steal_global missed with_trees
  steals name t s e = took-any Same (entry_steal c s.trees t q.class (size q)) s _ _ (λ x ts. asked name t _ _ (with_trees s ts) e) (λ ts. e)

  -- a tree that is tried is no look
  pub access-looks : (w : Walk) (j t : ℕ) (s : State) → s.looks ≡ n → looks_of (access c q w j t s) ≡ n
  unfolding access
  access-looks Walk.Near j t s e = reserves j t s e
  access-looks Walk.Far j t s e = reserves j t s e
  access-looks Walk.Stealing j t s e = steals None t s e

-- ---- a visit is one look

tried-looks : (xs : List Candidate) (w : Way) (n : ℕ) → looks_of w ≡ n → sight_looks (tried xs w) ≡ n
unfolding tried
tried-looks xs (out g s) n h = h

pub visit-looks : (c : Config) (q : Request) (w : Walk) (j m t : ℕ) (xs : List Candidate) (s : State) → sight_looks (visit c q w j m t xs s) ≡ s.looks + 1
unfolding visit offered with_look
visit-looks c q w j m t xs s =
    ifte-ind (λ (v : Out Got Sight). sight_looks v ≡ s.looks + 1) (eqb (rate c q w (entry_at s.trees t)) at_once) _ _
    (λ _. tried-looks xs (access c q w j t (with_look s)) (s.looks + 1) (access-looks c q (s.looks + 1) w j t (with_look s) refl))
    (λ _. ifte-ind (λ (v : Out Got Sight). sight_looks v ≡ s.looks + 1) (eqb (rate c q w (entry_at s.trees t)) 0) _ _ (λ _. refl) (λ _. refl))

-- ---- the steps that a walk of d steps does, from step i on

-- the step that ended the walk, and one for each that did not
unfoldable pub steps_after : Out Got Sight → (List Candidate → State → ℕ) → ℕ
steps_after v rest = suc (on_sight v (λ g x. 0) rest)

unfoldable pub steps_done : ℕ → Config → Request → Walk → ℕ → ℕ → ℕ → ℕ → ℕ → List Candidate → State → ℕ
steps_done zero c q w j m n start i xs s = 0
steps_done (suc d) c q w j m n start i xs s = steps_after (visit c q w j m (walk_tree n start i) xs s) (steps_done d c q w j m n start (i + 1))

-- a step, and what comes after it
module _ (walked : List Candidate → State → Out Got Sight) (rest : List Candidate → State → ℕ) (n : ℕ) where
  after-looks : ((xs : List Candidate) (s : State) → sight_looks (walked xs s) ≡ s.looks + rest xs s)
      → (v : Out Got Sight) → sight_looks v ≡ n + 1 → sight_looks (on_sight v out walked) ≡ n + steps_after v rest
  unfolding on_sight steps_after
  after-looks h (out (Got.Done f k) x) e = omega (arith, e)
  after-looks h (out Got.Missed x) e = omega (arith, e, h x.found x.state)
  after-looks h (out (Got.MissedAt t) x) e = omega (arith, e, h x.found x.state)
  after-looks h (out Got.Stuck x) e = omega (arith, e)

module _ (c : Config) (q : Request) (w : Walk) (j m n start : ℕ) where
  -- the looks after are the looks before and the steps done
  pub walk_looks : (d i : ℕ) (xs : List Candidate) (s : State)
      → sight_looks (walk_steps d c q w j m n start i xs s) ≡ s.looks + steps_done d c q w j m n start i xs s
  unfolding walk_steps steps_done
  walk_looks zero i xs s = omega arith
  walk_looks (suc d) i xs s =
      after-looks (walk_steps d c q w j m n start (i + 1)) (steps_done d c q w j m n start (i + 1)) s.looks (walk_looks d (i + 1))
      (visit c q w j m (walk_tree n start i) xs s) (visit-looks c q w j m (walk_tree n start i) xs s)
