-- 01, Walk: the order of trees, their rating, the list of the best, what is tried at once. Letters: n trees, i a step, t a tree, w the walk,
-- j the slot of the own local, m the length of the list (01's N). Assumes nothing.
use Rattle.std.specs.Prelude.{Bool, List, [], ◌∷◌, ℕ, zero, suc, ◌+◌, ◌-◌, ◌*◌, ◌/◌, ◌%◌, eqb, ltb, take, Option, None}
use Rattle.rules.specs.Base.{pick, bit_of, ifte, Out, out}
use Rattle.rules.specs.Words.{Config, tree_frames, tree_rows, entry_at}
use Rattle.rules.specs.Policy.{policy}
use Rattle.rules.specs.Entries.{entry_steal, entry_reserve}
use Rattle.rules.specs.Locals.{reservation, local_swap}
use Rattle.rules.specs.Lower.{lower_get}
use Rattle.rules.specs.declared.Tree.{Tree}
use Rattle.rules.specs.declared.Request.{Request}
use Rattle.rules.specs.declared.Kind.{Kind}
use Rattle.rules.specs.declared.Kind.TheVariants.{Invalid, Steal, Demote, Match}
use Rattle.rules_calls.specs.declared.Got.{Got}
use Rattle.rules_calls.specs.declared.Walk.{Walk}
use Rattle.rules_calls.specs.State.{State, Way, size, done, missed, stuck, or_else, with_look, on_took, on_taken, on_swap, on_found, ask_lower, unreserve, unreserve_local}

-- the tree at start + offset, modulo n; even i gives +i/2, odd i gives −(i+1)/2
unfoldable pub walk_tree : ℕ → ℕ → ℕ → ℕ
walk_tree n start i = pick (eqb (i % 2) 0) ((start + i / 2) % n) ((start + n - (i + 1) / 2) % n)

-- ---- ratings: Invalid 0, Steal 1, Demote 2, Match r is 3 + r

-- Match 255
abbrev pub at_once : ℕ
at_once = 258

-- near walk: any Match, and Demote of a full tree, at their own ratings; nothing else.
-- Far walk: any Match, and Demote of a full tree, as 255. Stealing search: plain ratings
unfoldable pub rated_in : Walk → Bool → Kind → ℕ
rated_in w is_full Invalid = 0
rated_in Walk.Near is_full Steal = 0
rated_in Walk.Near is_full Demote = pick is_full 2 0
rated_in Walk.Near is_full (Match r) = 3 + r
rated_in Walk.Far is_full Steal = 1
rated_in Walk.Far is_full Demote = pick is_full at_once 2
rated_in Walk.Far is_full (Match r) = at_once
rated_in Walk.Stealing is_full Steal = 1
rated_in Walk.Stealing is_full Demote = 2
rated_in Walk.Stealing is_full (Match r) = 3 + r

-- fully free
abbrev pub is_full : ℕ → Tree → Bool
is_full z e = eqb e.free (tree_frames z)

-- reserved trees are passed over; trees with too little free are Invalid, the others are rated with the tree's own free
unfoldable pub rate : Config → Request → Walk → Tree → ℕ
rate c q w e =
    pick e.reserved 0
    (pick (ltb e.free (size q)) 0
    (rated_in w (is_full c.tree_order e) (policy c q.class e.class e.free)))

-- ---- the list of the best: a rating with its fullness, and the tree

-- a tree that was offered
pub data Candidate : Type 0 where
  rated : ℕ → ℕ → Candidate

-- equals keep found order: before the first that is strictly worse
unfoldable pub insert : ℕ → ℕ → List Candidate → List Candidate
insert key t [] = rated key t ∷ []
insert key t (rated k u ∷ xs) = ifte (ltb k key) (λ _. rated key t ∷ rated k u ∷ xs) (λ _. rated k u ∷ insert key t xs)

-- a list of the best m: a full one drops its last
unfoldable pub admit : ℕ → ℕ → ℕ → List Candidate → List Candidate
admit m key t xs = take m (insert key t xs)

-- ---- what is done with a tree

-- steal globally, from the entry of tree t
unfoldable pub steal_global : Config → Request → Option ℕ → ℕ → State → Way
steal_global c q name t s =
    on_took (entry_steal c s.trees t q.class (size q)) s
    (λ e s1. ask_lower c q name t (t * tree_rows c.tree_order) e.class s1)
    missed

-- tree t was reserved with so many free. The reservation is stored in the local j with the tree's first row and the old free less 2^order;
-- the one it replaces is unreserved. If the lower refuses, the reservation is undone with the old free
unfoldable pub reserved_tree : Config → Request → ℕ → ℕ → ℕ → State → Way
reserved_tree c q j t old s =
    on_found (lower_get c.tree_order s.bits (t * tree_rows c.tree_order) q.order None) s
    (λ f s1. on_swap (local_swap s1.locals j (reservation (t * tree_rows c.tree_order) (old - size q))) s1
    (λ l s2. unreserve_local c l q.class s2 (done f q.class) stuck))
    (λ s1. unreserve c t q.class old s1 missed stuck)

-- reserve or steal tree t for the local j
unfoldable pub reserve_or_steal : Config → Request → ℕ → ℕ → State → Way
reserve_or_steal c q j t s =
    on_taken (entry_reserve c s.trees t q.class (size q)) s
    (λ e s1. ask_lower c q None t (t * tree_rows c.tree_order) e.class s1)
    (λ old s1. reserved_tree c q j t old s1)
    missed

-- a tree that a walk has found is tried
unfoldable pub access : Config → Request → Walk → ℕ → ℕ → State → Way
access c q Walk.Near j t s = reserve_or_steal c q j t s
access c q Walk.Far j t s = reserve_or_steal c q j t s
access c q Walk.Stealing j t s = steal_global c q None t s

-- ---- the walk

-- the list of the best so far, and the state
pub record Sight : Type 0 where
  pub found : List Candidate
  pub state : State

-- these two together
abbrev pub sight : List Candidate → State → Sight
sight xs s = record { found = xs; state = s }

-- how a tree that was tried at once ends
unfoldable pub tried : List Candidate → Way → Out Got Sight
tried xs (out g s) = out g (sight xs s)

-- Match 255 is tried at once; Invalid enters no list; others go to the list, fully free above not
unfoldable pub offered : Config → Request → Walk → ℕ → ℕ → ℕ → ℕ → Bool → List Candidate → State → Out Got Sight
offered c q w j m t r is_full xs s =
    ifte (eqb r at_once) (λ _. tried xs (access c q w j t s)) (λ _.
    ifte (eqb r 0) (λ _. out Got.Missed (sight xs s)) (λ _.
    out Got.Missed (sight (admit m (2 * r + bit_of is_full) t xs) s)))

-- tree t is looked at
unfoldable pub visit : Config → Request → Walk → ℕ → ℕ → ℕ → List Candidate → State → Out Got Sight
visit c q w j m t xs s =
    offered c q w j m t (rate c q w (entry_at s.trees t)) (is_full c.tree_order (entry_at s.trees t)) xs (with_look s)

-- a walk goes on where the tree gave nothing
unfoldable pub on_sight : {A : Type 0} → Out Got Sight → (Got → Sight → A) → (List Candidate → State → A) → A
on_sight (out (Got.Done f k) x) stop next = stop (Got.Done f k) x
on_sight (out Got.Missed x) stop next = next x.found x.state
on_sight (out (Got.MissedAt t) x) stop next = next x.found x.state
on_sight (out Got.Stuck x) stop next = stop Got.Stuck x

-- d steps from step i
unfoldable pub walk_steps : ℕ → Config → Request → Walk → ℕ → ℕ → ℕ → ℕ → ℕ → List Candidate → State → Out Got Sight
walk_steps zero c q w j m n start i xs s = out Got.Missed (sight xs s)
walk_steps (suc d) c q w j m n start i xs s =
    on_sight (visit c q w j m (walk_tree n start i) xs s) out (walk_steps d c q w j m n start (i + 1))

-- for i from a first number up to but not including a last
unfoldable pub walk : Config → Request → Walk → ℕ → ℕ → ℕ → ℕ → ℕ → ℕ → List Candidate → State → Out Got Sight
walk c q w j m n start i last xs s = walk_steps (last - i) c q w j m n start i xs s

-- the list is tried best first
unfoldable pub try_list : Config → Request → Walk → ℕ → List Candidate → State → Way
try_list c q w j [] s = missed s
try_list c q w j (rated k t ∷ xs) s = or_else (access c q w j t s) (try_list c q w j xs)

-- a walk that ended at a tree ends the search
unfoldable pub stopped : Got → Sight → Way
stopped g x = out g x.state

-- a walk, then its list
unfoldable pub search_best : Config → Request → Walk → ℕ → ℕ → ℕ → ℕ → ℕ → ℕ → State → Way
search_best c q w j m n start first last s =
    on_sight (walk c q w j m n start first last [] s) stopped (try_list c q w j)
