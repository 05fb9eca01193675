-- Laws of the walk, of its list, and of the trial of the list, for any claim. Assumes nothing.
use Rattle.std.specs.Prelude.{◌≡◌, Bool, true, false, eqb, ltb, take}
use mathlib.Core.List.{List, [], ◌∷◌}
use Prim.Native.Nat.{ℕ, zero, suc, ◌+◌, ◌-◌, ◌*◌, ◌/◌, ◌%◌, ◌<◌}
use Rattle.std.proofs.Common.{mod-lt, eqb-true}
use native.Mathlib.Omega.{arith}
use Rattle.std.proofs.lemmas.Bool.{eqb-false}
use Rattle.rules.specs.Base.{pick, bit_of, Out, out}
use Rattle.rules.specs.Words.{Config, entry_at}
use Rattle.rules.specs.declared.Request.{Request}
use Rattle.rules_calls.specs.declared.Got.{Got}
use Rattle.rules_calls.specs.declared.Walk.{Walk}
use Rattle.rules_calls.specs.State.{State, Way, missed, with_look}
use Rattle.rules_calls.specs.Walking.{walk_tree, at_once, is_full, rate, Candidate, rated, insert, admit, access, Sight, sight, tried, offered, visit, on_sight, walk_steps, try_list}
use Rattle.law_calls.specs.Steps.{ifte-ind, else-ind}

-- a walk stays in the trees
pub walk_tree-lt : (n start i : ℕ) → 0 < n → walk_tree n start i < n
unfolding walk_tree
walk_tree-lt n start i h = go (eqb (i % 2) 0)
  where
    go : (b : Bool) → pick b ((start + i / 2) % n) ((start + n - (i + 1) / 2) % n) < n
    go true = mod-lt (start + i / 2) h
    go false = mod-lt (start + n - (i + 1) / 2) h

-- a fact of every tree of a list
abbrev pub Every : (ℕ → Type 0) → List Candidate → Type 0
Every P [] = Unit {0}
Every P (rated k t ∷ xs) = P t × Every P xs

module _ (P : ℕ → Type 0) where
  pub every-insert : (key t : ℕ) → P t → (xs : List Candidate) → Every P xs → Every P (insert key t xs)
  unfolding insert
  every-insert key t p [] a = (p, tt)
  every-insert key t p (rated k u ∷ xs) a = ifte-ind (Every P) (ltb k key) _ _ (λ _. (p, a)) (λ _. (a.0, every-insert key t p xs a.1))

  pub every_take : (d : ℕ) (xs : List Candidate) → Every P xs → Every P (take d xs)
  every_take zero xs a = tt
  every_take (suc d) [] a = tt
  every_take (suc d) (rated k u ∷ xs) a = (a.0, every_take d xs a.1)

  pub every-admit : (m key t : ℕ) → P t → (xs : List Candidate) → Every P xs → Every P (admit m key t xs)
  unfolding admit
  every-admit m key t p xs a = every_take m (insert key t xs) (every-insert key t p xs a)

-- how a tree that was tried at once ends
pub tried-ind : (R : Way → Type 0) (Q : Out Got Sight → Type 0) (xs : List Candidate) (w : Way) → R w → ((g : Got) (s : State) → R (out g s) → Q (out g (sight xs s))) → Q (tried xs w)
unfolding tried
tried-ind R Q xs (out g s) h f = f g s h

-- a tree looked at: tried at once, passed over, or listed
pub visit-ind : (Q : Out Got Sight → Type 0) (c : Config) (q : Request) (w : Walk) (j m t : ℕ) (xs : List Candidate) (s : State)
    → (rate c q w (entry_at s.trees t) ≡ at_once → Q (tried xs (access c q w j t (with_look s))))
    → (rate c q w (entry_at s.trees t) ≡ 0 → Q (out Got.Missed (sight xs (with_look s))))
    → ((rate c q w (entry_at s.trees t) ≡ 0 → ⊥) → Q (out Got.Missed (sight (admit m (2 * rate c q w (entry_at s.trees t) + bit_of (is_full c.tree_order (entry_at s.trees t))) t xs) (with_look s))))
    → Q (visit c q w j m t xs s)
unfolding visit offered
visit-ind Q c q w j m t xs s once passed listed =
    ifte-ind Q (eqb (rate c q w (entry_at s.trees t)) at_once) _ _ (λ e. once (eqb-true _ _ e)) (λ _.
    ifte-ind Q (eqb (rate c q w (entry_at s.trees t)) 0) _ _ (λ e. passed (eqb-true _ _ e)) (λ e. listed (eqb-false _ _ e)))

-- on where the tree gave nothing
pub sight-ind : {A : Type 0} (R : Out Got Sight → Type 0) (Q : A → Type 0) (v : Out Got Sight) (stop : Got → Sight → A) (next : List Candidate → State → A) → R v
    → ((f k : ℕ) (x : Sight) → R (out (Got.Done f k) x) → Q (stop (Got.Done f k) x))
    → ((x : Sight) → R (out Got.Missed x) → Q (next x.found x.state))
    → ((t : ℕ) (x : Sight) → R (out (Got.MissedAt t) x) → Q (next x.found x.state))
    → ((x : Sight) → R (out Got.Stuck x) → Q (stop Got.Stuck x)) → Q (on_sight v stop next)
unfolding on_sight
sight-ind R Q (out (Got.Done f k) x) stop next h done missed at stuck = done f k x h
sight-ind R Q (out Got.Missed x) stop next h done missed at stuck = missed x h
sight-ind R Q (out (Got.MissedAt t) x) stop next h done missed at stuck = at t x h
sight-ind R Q (out Got.Stuck x) stop next h done missed at stuck = stuck x h

-- a walk, for a claim I on the list and the state before each step, R on a visit and Q on the walk
module _ (c : Config) (q : Request) (w : Walk) (j m n start : ℕ) (I : ℕ → List Candidate → State → Type 0) (R : ℕ → Out Got Sight → Type 0) (Q : Out Got Sight → Type 0)
    (sees : (i : ℕ) (xs : List Candidate) (s : State) → I i xs s → R i (visit c q w j m (walk_tree n start i) xs s))
    (done : (i f k : ℕ) (x : Sight) → R i (out (Got.Done f k) x) → Q (out (Got.Done f k) x))
    (missed : (i : ℕ) (x : Sight) → R i (out Got.Missed x) → I (i + 1) x.found x.state)
    (at : (i t : ℕ) (x : Sight) → R i (out (Got.MissedAt t) x) → I (i + 1) x.found x.state)
    (stuck : (i : ℕ) (x : Sight) → R i (out Got.Stuck x) → Q (out Got.Stuck x)) where
  pub steps-ind : (d i last : ℕ) → i + d ≡ last → ((xs : List Candidate) (s : State) → I last xs s → Q (out Got.Missed (sight xs s)))
      → (xs : List Candidate) (s : State) → I i xs s → Q (walk_steps d c q w j m n start i xs s)
  unfolding walk_steps
  steps-ind zero i last e end xs s h = end xs s (let r : i ≡ last = omega arith in rw r at h)
  steps-ind (suc d) i last e end xs s h =
      sight-ind (R i) Q (visit c q w j m (walk_tree n start i) xs s) out (walk_steps d c q w j m n start (i + 1)) (sees i xs s h)
      (done i)
      (λ x r. steps-ind d (i + 1) last (omega arith) end x.found x.state (missed i x r))
      (λ t x r. steps-ind d (i + 1) last (omega arith) end x.found x.state (at i t x r))
      (stuck i)

-- the list tried best first: for a claim Q that a missed trial passes on
pub list-ind : (c : Config) (q : Request) (w : Walk) (j : ℕ) (P : ℕ → Type 0) (Q : Way → Type 0)
    → ((t : ℕ) (s : State) → P t → Q (out Got.Missed s) → Q (access c q w j t s))
    → ((t : ℕ) (s : State) → Q (out (Got.MissedAt t) s) → Q (out Got.Missed s))
    → (xs : List Candidate) → Every P xs → (s : State) → Q (out Got.Missed s) → Q (try_list c q w j xs s)
unfolding try_list missed
list-ind c q w j P Q tries at [] a s h = h
list-ind c q w j P Q tries at (rated k t ∷ xs) a s h =
    else-ind Q Q (access c q w j t s) (tries t s a.0 h) (λ f k s1 r. r) (λ s1 r. r) (try_list c q w j xs)
    (λ s1 r. list-ind c q w j P Q tries at xs a.1 s1 r)
    (λ u s1 r. list-ind c q w j P Q tries at xs a.1 s1 (at u s1 r))
