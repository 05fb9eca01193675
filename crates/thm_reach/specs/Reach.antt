-- What a get of one frame with no name can reach on a state, in 01's words. Assumes nothing.
use Rattle.std.specs.Prelude.{◌≡◌, true, false, ◌≢◌, ◌⊎◌, List, ℕ, ◌<◌, ◌≤◌, Option, Some}
use Rattle.rules.specs.Words.{Config, trees_of, locals_of, slot, entry_at, local_at}
use Rattle.rules.specs.Policy.{kind_at}
use Rattle.rules.specs.declared.Request.{Request}
use Rattle.rules_calls.specs.Standing.{tree_on}

-- class k may use a frame of a local of class e: its kind is Steal or Match, or e is another class of kind Demote
abbrev pub Lends : Config → ℕ → ℕ → Type 0
Lends c k e = (kind_at c k e ≡ 1) ⊎ ((kind_at c k e ≡ 3) ⊎ ((kind_at c k e ≡ 2) × (e ≢ k)))

-- the own local is asked for: index i is given, and the class has fewer locals than there are trees
abbrev pub OwnAsked : Config → ℕ → Option ℕ → ℕ → Type 0
OwnAsked c k given i = (given ≡ Some i) × (locals_of c.places k < trees_of c)

-- a free frame that a request of class k, with the local `given`, can reach
pub data Reachable (c : Config) (ts ls : List ℕ) (k : ℕ) (given : Option ℕ) : Type 0 where
  -- in the entry of an unreserved tree whose class is not Invalid for k
  entry : (t : ℕ) → t < trees_of c → (entry_at ts t).reserved ≡ false → 0 < (entry_at ts t).free → 0 < kind_at c k (entry_at ts t).class → Reachable c ts ls k given
  -- in a present local of a class that lends to k
  local : (e i : ℕ) → e < 8 → i < locals_of c.places e → Lends c k e → (local_at ls (slot c.places e i)).present ≡ true → 0 < (local_at ls (slot c.places e i)).free → Reachable c ts ls k given
  -- in the own local
  own : (i : ℕ) → OwnAsked c k given i → (local_at ls (slot c.places k i)).present ≡ true → 0 < (local_at ls (slot c.places k i)).free → Reachable c ts ls k given
  -- in the entry of the own local's tree, if it has more than one
  top_up : (i : ℕ) → OwnAsked c k given i → (local_at ls (slot c.places k i)).present ≡ true → 1 < (entry_at ts (tree_on c.tree_order (local_at ls (slot c.places k i)))).free → Reachable c ts ls k given

-- by the request q
abbrev pub ReachedBy : Config → List ℕ → List ℕ → Request → Type 0
ReachedBy c ts ls q = Reachable c ts ls q.class q.local

-- there is none
pub record Unreachable (c : Config) (ts ls : List ℕ) (k : ℕ) (given : Option ℕ) : Type 0 where
  -- every unreserved tree with a free frame in its entry is Invalid for k
  pub entries : (t : ℕ) → t < trees_of c → (entry_at ts t).reserved ≡ false → 0 < (entry_at ts t).free → kind_at c k (entry_at ts t).class ≡ 0
  -- every present local of a class that lends to k is empty
  pub locals : (e i : ℕ) → e < 8 → i < locals_of c.places e → Lends c k e → (local_at ls (slot c.places e i)).present ≡ true → (local_at ls (slot c.places e i)).free ≡ 0
  -- the own local, if it is asked for and present, is empty, and its tree's entry has at most one frame
  pub own : (i : ℕ) → OwnAsked c k given i → (local_at ls (slot c.places k i)).present ≡ true
      → ((local_at ls (slot c.places k i)).free ≡ 0) × ((entry_at ts (tree_on c.tree_order (local_at ls (slot c.places k i)))).free ≤ 1)
