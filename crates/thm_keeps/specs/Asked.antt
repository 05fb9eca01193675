-- A request that no argument test refuses, as the routes ask for it; and the tree of its frame. Assumes nothing.
use Rattle.std.specs.Prelude.{◌≡◌, true, List, ℕ, suc, ◌-◌, ◌*◌, ◌/◌, ◌<◌, ◌≤◌, length, Option, Some, None}
use Rattle.std.proofs.Common.{le-div_iff_mul-le, mul-le-mul_left, mul_comm, arith, pow_pos, lt-ltb, le-leb}
use Rattle.rules.specs.Words.{Config, tree_frames, tree_rows, trees_of}
use Rattle.rules.specs.Lower.{has_tree}
use Rattle.rules.specs.declared.Request.{Request}
use Rattle.rules_calls.specs.Calls.{frame_of}
use Rattle.law_rules.specs.Accepted.{accepted-says, trees-most}
use Rattle.law_rules.specs.Sizes.{Size, tree-below}
use Rattle.thm_hand.specs.Hand.{Kept}
use Rattle.law_calls.specs.Checked.{Checked}
use Rattle.thm_keeps.specs.Fine.{Asks}

-- a get of a named frame, or of none
pub asks : (c : Config) (q : Request) (name : Option ℕ) → Checked c q (frame_of name) → Asks c q name
unfolding frame_of
asks c q None a = record { order = a.order; class = a.class; local = a.local; frame = tt }
asks c q (Some f) a = record { order = a.order; class = a.class; local = a.local; frame = (a.aligned, a.bounds) }

-- the frame's tree exists, and the bitmap has it
pub asked-tree : (c : Config) → Size c.tree_order → (q : Request) (f : ℕ) → Checked c q f → f / tree_frames c.tree_order < trees_of c
asked-tree c sz q f a = tree-below c.tree_order sz f c.frames (omega (arith, a.bounds, pow_pos q.order))

pub has-trees : (c : Config) (ts ls bs : List ℕ) → Kept c ts ls bs → (t : ℕ) → t < trees_of c → has_tree c.tree_order bs t ≡ true
unfolding has_tree
has-trees c ts ls bs K t lt =
    let small : length bs ≤ 1024 * tree_rows c.tree_order =
    omega (arith, K.bit_words, mul-le-mul_left (tree_rows c.tree_order) (trees-most c (accepted-says c K.config)), mul_comm (tree_rows c.tree_order) 1024) in
    let there : t < length bs / tree_rows c.tree_order =
    (le-div_iff_mul-le {k = tree_rows c.tree_order} {x = suc t} {y = length bs} (pow_pos (c.tree_order - 6))).1
    (omega (arith, K.bit_words, mul-le-mul_left (tree_rows c.tree_order) lt, mul_comm (tree_rows c.tree_order) (suc t))) in
    rw (le-leb (length bs) (1024 * tree_rows c.tree_order) small, lt-ltb t (length bs / tree_rows c.tree_order) there)
