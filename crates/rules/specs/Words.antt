-- 01, Numbers and words. z is the order of a tree: 11. Assumes nothing.
use Rattle.std.specs.Prelude.{Bool, List, ℕ, ◌+◌, ◌-◌, ◌*◌, ◌/◌, ◌%◌, ◌^◌, eqb, ltb, get_or}
use Rattle.rules.specs.Base.{bit_of, sum}
use Rattle.rules.specs.declared.Tree.{Tree}
use Rattle.rules.specs.declared.Local.{Local}
use Rattle.rules.specs.declared.Header.{Header}

-- a tree has 2,048 frames (order 11)
abbrev pub tree_frames : ℕ → ℕ
tree_frames z = 2 ^ z

-- a row has 64 frames: 32 rows a tree, and as many bitmap words
abbrev pub tree_rows : ℕ → ℕ
tree_rows z = 2 ^ (z - 6)

-- a huge block has 512 frames (order 9)
abbrev pub huge_order : ℕ → ℕ
huge_order z = z - 2

-- header and policy table; `pairs`: the pair (requested, target) at 8 × requested + target
pub record Config : Type 0 where
  pub tree_order : ℕ
  pub frames : ℕ
  pub default : ℕ
  pub places : List ℕ
  pub pairs : List ℕ

-- the configuration that a header and a lent table make: trees of order 11
abbrev pub config : Header → List ℕ → Config
config h pairs = record { tree_order = 11; frames = h.frames; default = h.default; places = h.places; pairs = pairs }

-- trees n = F / 2,048 rounded up
unfoldable pub tree_count : ℕ → ℕ → ℕ
tree_count z f = (f + (tree_frames z - 1)) / tree_frames z

-- the number of trees of a configuration
abbrev pub trees_of : Config → ℕ
trees_of c = tree_count c.tree_order c.frames

-- each class is unconfigured (place 0) or has locals (place: their number plus one)
unfoldable pub configured : List ℕ → ℕ → Bool
configured ps k = ltb 0 (get_or ps k 0)

-- the number of locals of a class
unfoldable pub locals_of : List ℕ → ℕ → ℕ
locals_of ps k = get_or ps k 0 - 1

-- one local word per local, by class, then index: the word of class k, index i
unfoldable pub slot : List ℕ → ℕ → ℕ → ℕ
slot ps k i = sum (locals_of ps) 0 k + i

-- the number of locals of all classes
unfoldable pub local_count : List ℕ → ℕ
local_count ps = sum (locals_of ps) 0 8

-- tree word: free in bits 0 to 27, reserved bit 28, class bits 29 to 31
unfoldable pub tree_of : ℕ → Tree
tree_of w = record { free = w % 2 ^ 28; reserved = eqb (w / 2 ^ 28 % 2) 1; class = w / 2 ^ 29 }

-- each field goes into its own bits (under the standing rules it fits them)
unfoldable pub tree_word : Tree → ℕ
tree_word t = t.free % 2 ^ 28 + 2 ^ 28 * bit_of t.reserved + 2 ^ 29 * (t.class % 8)

-- local word: row in bits 0 to 43, free 44 to 62, present 63
unfoldable pub local_of : ℕ → Local
local_of w = record { row = w % 2 ^ 44; free = w / 2 ^ 44 % 2 ^ 19; present = eqb (w / 2 ^ 63) 1 }

-- each field goes into its own bits
unfoldable pub local_word : Local → ℕ
local_word l = l.row % 2 ^ 44 + 2 ^ 44 * (l.free % 2 ^ 19) + 2 ^ 63 * bit_of l.present

-- an entry with these fields: free, reserved, class
abbrev pub entry : ℕ → Bool → ℕ → Tree
entry f r k = record { free = f; reserved = r; class = k }

-- the entry of tree t
abbrev pub entry_at : List ℕ → ℕ → Tree
entry_at ts t = tree_of (get_or ts t 0)

-- the local in slot j of the lent words
abbrev pub local_at : List ℕ → ℕ → Local
local_at ls j = local_of (get_or ls j 0)
