-- 01, Standing rules: as named facts, and as the test that is made at each exported call but a start. Assumes nothing.
use Rattle.std.specs.Prelude.{◌≡◌, Bool, true, false, not, List, ℕ, ◌+◌, ◌-◌, ◌*◌, ◌/◌, ◌<◌, ◌≤◌, eqb, leb, ltb, get_or, length}
use Rattle.rules.specs.Base.{pick, both, bit_of, all_below, sum}
use Rattle.rules.specs.Words.{Config, tree_frames, tree_rows, trees_of, configured, locals_of, slot, local_count, entry_at, local_at}
use Rattle.rules.specs.Policy.{accepted, good, Configured, Good}
use Rattle.rules.specs.Lower.{bit, held, clear}
use Rattle.rules.specs.declared.Local.{Local}

-- the tree in which a local's row lies
abbrev pub tree_on : ℕ → Local → ℕ
tree_on z l = l.row / tree_rows z

-- ---- the rules, sentence by sentence

-- of configuration c, tree words ts, local words ls, bitmap words bs
pub record Standing (c : Config) (ts ls bs : List ℕ) : Type 0 where
  -- header and policy table as a start accepts them
  pub config : accepted c ≡ true
  -- lent state lengths exact
  pub tree_words : length ts ≡ trees_of c
  pub local_words : length ls ≡ local_count c.places
  pub bit_words : length bs ≡ tree_rows c.tree_order * trees_of c
  -- entry free at most 2,048, class configured
  pub free : (t : ℕ) → t < trees_of c → (entry_at ts t).free ≤ tree_frames c.tree_order
  pub class : (t : ℕ) → t < trees_of c → Configured c (entry_at ts t).class
  -- each present local's row lies in an existing tree whose entry is reserved
  pub inside : (j : ℕ) → j < local_count c.places → (local_at ls j).present ≡ true → tree_on c.tree_order (local_at ls j) < trees_of c
  pub entry_reserved : (j : ℕ) → j < local_count c.places → (local_at ls j).present ≡ true → (entry_at ts (tree_on c.tree_order (local_at ls j))).reserved ≡ true
  -- distinct locals hold distinct trees
  pub distinct : (i j : ℕ) → i < local_count c.places → j < local_count c.places → (local_at ls i).present ≡ true → (local_at ls j).present ≡ true
      → tree_on c.tree_order (local_at ls i) ≡ tree_on c.tree_order (local_at ls j) → i ≡ j
  -- each reserved entry has a holder
  pub holder : (t : ℕ) → t < trees_of c → (entry_at ts t).reserved ≡ true
      → (j : ℕ) × ((j < local_count c.places) × (((local_at ls j).present ≡ true) × (tree_on c.tree_order (local_at ls j) ≡ t)))
  -- the pair (holder's class, entry's class) is good
  pub pair : (k i : ℕ) → k < 8 → i < locals_of c.places k → (local_at ls (slot c.places k i)).present ≡ true
      → Good c k (entry_at ts (tree_on c.tree_order (local_at ls (slot c.places k i)))).class
  -- entry free plus holder's free is the number of clear bits of that tree
  pub unheld : (t : ℕ) → t < trees_of c → (entry_at ts t).reserved ≡ false → (entry_at ts t).free ≡ clear c.tree_order bs t
  pub sum : (j : ℕ) → j < local_count c.places → (local_at ls j).present ≡ true
      → (entry_at ts (tree_on c.tree_order (local_at ls j))).free + (local_at ls j).free ≡ clear c.tree_order bs (tree_on c.tree_order (local_at ls j))
  -- bits at and past F are set
  pub past : (f : ℕ) → c.frames ≤ f → f < length bs * 64 → bit bs f ≡ 1
  -- absent locals are 0
  pub absent : (j : ℕ) → j < local_count c.places → (local_at ls j).present ≡ false → get_or ls j 0 ≡ 0

-- ---- the same as a test

-- lent state lengths exact
unfoldable pub lengths_exact : Config → List ℕ → List ℕ → List ℕ → Bool
lengths_exact c ts ls bs =
    both (eqb (length ts) (trees_of c))
    (both (eqb (length ls) (local_count c.places))
    (eqb (length bs) (tree_rows c.tree_order * trees_of c)))

-- entry free at most 2,048, class configured; with no reservation entry free is the number of clear bits
unfoldable pub entry_stands : Config → List ℕ → List ℕ → ℕ → Bool
entry_stands c ts bs t =
    both (leb (entry_at ts t).free (tree_frames c.tree_order))
    (both (configured c.places (entry_at ts t).class)
    (pick (entry_at ts t).reserved true (eqb (entry_at ts t).free (clear c.tree_order bs t))))

-- of a present local of class k: its tree exists, the entry is reserved, the pair good, and entry free plus its free the number of clear bits
unfoldable pub holder_stands : Config → List ℕ → List ℕ → ℕ → Local → Bool
holder_stands c ts bs k l =
    both (ltb (tree_on c.tree_order l) (trees_of c))
    (both (entry_at ts (tree_on c.tree_order l)).reserved
    (both (good c k (entry_at ts (tree_on c.tree_order l)).class)
    (eqb ((entry_at ts (tree_on c.tree_order l)).free + l.free) (clear c.tree_order bs (tree_on c.tree_order l)))))

-- an absent local is the word 0
unfoldable pub local_stands : Config → List ℕ → List ℕ → List ℕ → ℕ → ℕ → Bool
local_stands c ts ls bs k j = pick (local_at ls j).present (holder_stands c ts bs k (local_at ls j)) (eqb (get_or ls j 0) 0)

-- the locals of class k
unfoldable pub class_stands : Config → List ℕ → List ℕ → List ℕ → ℕ → Bool
class_stands c ts ls bs k = all_below (locals_of c.places k) (λ i. local_stands c ts ls bs k (slot c.places k i))

-- two locals do not hold one tree
unfoldable pub apart : ℕ → Local → Local → Bool
apart z a b = pick a.present (pick b.present (not (eqb (tree_on z a) (tree_on z b))) true) true

-- no local before j holds the tree of the local j
unfoldable pub apart_before : ℕ → List ℕ → ℕ → Bool
apart_before z ls j = all_below j (λ i. apart z (local_at ls j) (local_at ls i))

-- the number of reserved entries
unfoldable pub reserved_count : List ℕ → ℕ → ℕ
reserved_count ts n = sum (λ t. bit_of (entry_at ts t).reserved) 0 n

-- the number of present locals
unfoldable pub present_count : List ℕ → ℕ → ℕ
present_count ls n = sum (λ j. bit_of (local_at ls j).present) 0 n

-- bits at and past F are set
unfoldable pub past_held : Config → List ℕ → Bool
past_held c bs = eqb (held bs c.frames (length bs * 64 - c.frames)) (length bs * 64 - c.frames)

-- the whole state is tested
unfoldable pub standing : Config → List ℕ → List ℕ → List ℕ → Bool
standing c ts ls bs =
    both (accepted c)
    (both (lengths_exact c ts ls bs)
    (both (all_below (trees_of c) (entry_stands c ts bs))
    (both (all_below 8 (class_stands c ts ls bs))
    (both (all_below (local_count c.places) (apart_before c.tree_order ls))
    (both (eqb (reserved_count ts (trees_of c)) (present_count ls (local_count c.places)))
    (past_held c bs))))))
