-- The four ways through the test of a present local: `n` trees, the entry `e` of its tree, the kind `w` of the pair. Assumes nothing.
use Rattle.std.specs.Prelude.{◌≡◌, true, false, List, ℕ, ◌+◌, ◌/◌, ◌<◌, ◌≤◌, eqb}
use borrow.Author.Tests.{le-leb, le-ltb, lt-leb, lt-ltb}
use Rattle.rules.specs.Words.{config, entry_at, tree_count}
use Rattle.rules.specs.Policy.{good, kind_at}
use Rattle.rules.specs.Lower.{clear}
use Rattle.rules.specs.declared.Header.{Header}
use Rattle.rules.specs.declared.Local.{Local}
use Rattle.rules.specs.declared.Tree.{Tree}
use Rattle.rules_calls.specs.Standing.{holder_stands}

module _ (h : Header) (table ts bs : List ℕ) (k : ℕ) (l : Local) {n : ℕ} (count : n ≡ tree_count 11 h.frames) where
  -- its tree does not exist
  pub tree-past : n ≤ l.row / 32 → false ≡ holder_stands (config h table) ts bs k l
  unfolding holder_stands
  tree-past p = rw (← count, le-ltb _ _ p)

  module _ (inside : l.row / 32 < n) {e : Tree} (entry : e ≡ entry_at ts (l.row / 32)) where
    -- the entry is not reserved
    pub unreserved : e.reserved ≡ false → false ≡ holder_stands (config h table) ts bs k l
    unfolding holder_stands
    unreserved r = rw (← count, lt-ltb _ _ inside, ← entry, r)

    module _ (reserved : e.reserved ≡ true) {w : ℕ} (kind : w ≡ kind_at (config h table) k e.class) where
      -- the pair is not good
      pub not_good : w < 2 → false ≡ holder_stands (config h table) ts bs k l
      unfolding holder_stands good
      not_good p = rw (← count, lt-ltb _ _ inside, ← entry, reserved, ← kind, lt-leb _ _ p)

      -- all of them hold, and the bits decide
      pub bits-decide : 2 ≤ w → {s b : ℕ} → s ≡ e.free + l.free → b ≡ clear 11 bs (l.row / 32) → eqb s b ≡ holder_stands (config h table) ts bs k l
      unfolding holder_stands good
      bits-decide p all bits = rw (← count, lt-ltb _ _ inside, ← entry, reserved, ← kind, le-leb _ _ p, ← all, ← bits)
