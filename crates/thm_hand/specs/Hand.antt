-- The standing rules with something in hand: frames and reservations of a tree that are in no word between two steps of a call.
-- Every call is a chain of moves between such states that begins and ends with nothing in hand. Assumes nothing.
use Rattle.std.specs.Prelude.{◌≡◌, true, false, List, ℕ, ◌+◌, ◌-◌, ◌*◌, ◌<◌, ◌≤◌, eqb, get_or, length}
use Rattle.rules.specs.Base.{pick, bit_of, sum}
use Rattle.rules.specs.Words.{Config, tree_frames, tree_rows, trees_of, locals_of, slot, local_count, entry_at, local_at}
use Rattle.rules.specs.Policy.{accepted, Configured, Good}
use Rattle.rules.specs.Lower.{held}
use Rattle.rules.specs.declared.Local.{Local}
use Rattle.rules_calls.specs.Standing.{tree_on}

-- n at tree t, nothing at the others
unfoldable pub here : ℕ → ℕ → ℕ → ℕ
here t n i = pick (eqb i t) n 0

-- nothing, at every tree
abbrev pub nothing : ℕ → ℕ
nothing i = 0

-- the frames of tree t that a local has
unfoldable pub share : ℕ → Local → ℕ → ℕ
share z l t = pick l.present (here (tree_on z l) l.free t) 0

-- whether a local holds tree t: 1 or 0
unfoldable pub holds : ℕ → Local → ℕ → ℕ
holds z l t = pick l.present (here (tree_on z l) 1 t) 0

-- the frames of tree t that all locals have
unfoldable pub shares : ℕ → ℕ → List ℕ → ℕ
shares z t ls = sum (λ j. share z (local_at ls j) t) 0 (length ls)

-- the number of locals that hold tree t
unfoldable pub holders : ℕ → ℕ → List ℕ → ℕ
holders z t ls = sum (λ j. holds z (local_at ls j) t) 0 (length ls)

-- the rules, where n t frames of tree t and h t reservations of it are in no word
pub record Hand (c : Config) (ts ls bs : List ℕ) (n h : ℕ → ℕ) : Type 0 where
  -- header and policy table as a start accepts them
  pub config : accepted c ≡ true
  -- lent state lengths exact
  pub tree_words : length ts ≡ trees_of c
  pub local_words : length ls ≡ local_count c.places
  pub bit_words : length bs ≡ tree_rows c.tree_order * trees_of c
  -- entry free at most the tree's frames, class configured
  pub free : (t : ℕ) → t < trees_of c → (entry_at ts t).free ≤ tree_frames c.tree_order
  pub class : (t : ℕ) → t < trees_of c → Configured c (entry_at ts t).class
  -- a reserved entry has one holder, in a word or in hand; an unreserved one none
  pub one : (t : ℕ) → t < trees_of c → holders c.tree_order t ls + h t ≡ bit_of (entry_at ts t).reserved
  -- the frames of a tree: in its entry, in locals, in hand, held
  pub sum : (t : ℕ) → t < trees_of c → (entry_at ts t).free + shares c.tree_order t ls + n t + held bs (t * tree_frames c.tree_order) (tree_frames c.tree_order) ≡ tree_frames c.tree_order
  -- each present local's row lies in an existing tree
  pub inside : (j : ℕ) → (local_at ls j).present ≡ true → tree_on c.tree_order (local_at ls j) < trees_of c
  -- the pair (holder's class, entry's class) is good
  pub pair : (k i : ℕ) → k < 8 → i < locals_of c.places k → (local_at ls (slot c.places k i)).present ≡ true
      → Good c k (entry_at ts (tree_on c.tree_order (local_at ls (slot c.places k i)))).class
  -- absent locals are 0
  pub absent : (j : ℕ) → (local_at ls j).present ≡ false → get_or ls j 0 ≡ 0
  -- bits at and past F are set
  pub past : held bs c.frames (length bs * 64 - c.frames) ≡ length bs * 64 - c.frames

-- the rules with nothing in hand
abbrev pub Kept : Config → List ℕ → List ℕ → List ℕ → Type 0
Kept c ts ls bs = Hand c ts ls bs nothing nothing
