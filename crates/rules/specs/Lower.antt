-- 01, Lower stand-in: the bitmap, blocks, what a get finds and takes, what a put gives back. Assumes nothing.
use Rattle.std.specs.Prelude.{Bool, true, false, List, ℕ, zero, suc, ◌+◌, ◌-◌, ◌*◌, ◌/◌, ◌%◌, ◌^◌, eqb, leb, ltb, get_or, set, length, Option, Some, None}
use Rattle.rules.specs.Base.{pick, both, sum, or_found, first_in, Out, out}
use Rattle.rules.specs.Words.{tree_frames, tree_rows}

-- bit i of a word
abbrev pub bit_at : ℕ → ℕ → ℕ
bit_at w i = w / 2 ^ i % 2

-- bit i of word w is frame 64 w + i, 1 means held
abbrev pub bit : List ℕ → ℕ → ℕ
bit ws f = bit_at (get_or ws (f / 64) 0) (f % 64)

-- how many of the n frames from a are held
unfoldable pub held : List ℕ → ℕ → ℕ → ℕ
held ws a n = sum (bit ws) a n

-- how many frames of the block j of order o are held: none, it is wholly free; 2^o, every frame of it is held
unfoldable pub held_in : List ℕ → ℕ → ℕ → ℕ
held_in ws o j = held ws (j * 2 ^ o) (2 ^ o)

-- how many of the lowest d bits of a word are clear
unfoldable pub clear_bits : ℕ → ℕ → ℕ
clear_bits zero w = 0
clear_bits (suc d) w = (1 - w % 2) + clear_bits d (w / 2)

-- the number of clear bits of tree t
unfoldable pub clear : ℕ → List ℕ → ℕ → ℕ
clear z ws t = sum (λ q. clear_bits 64 (get_or ws q 0)) (t * tree_rows z) (tree_rows z)

-- w with x in the place of the n bits from bit s
abbrev pub put_field : ℕ → ℕ → ℕ → ℕ → ℕ
put_field w s n x = (w / 2 ^ (s + n) * 2 ^ n + x) * 2 ^ s + w % 2 ^ s

-- n bits that are all v
abbrev pub full : Bool → ℕ → ℕ
full true n = 2 ^ n - 1
full false n = 0

-- k words from q on are x
abbrev pub set_words : List ℕ → ℕ → ℕ → ℕ → List ℕ
set_words ws q zero x = ws
set_words ws q (suc k) x = set (set_words ws q k x) (q + k) x

-- the n bits from bit s of the word q on are v
abbrev pub set_part : Bool → List ℕ → ℕ → ℕ → ℕ → List ℕ
set_part v ws q s n = set ws q (put_field (get_or ws q 0) s n (full v n))

-- every frame of the block j of order o becomes held (true) or free (false)
unfoldable pub mark : Bool → List ℕ → ℕ → ℕ → List ℕ
mark v ws o j =
    pick (ltb o 6)
    (set_part v ws (j * 2 ^ o / 64) (j * 2 ^ o % 64) (2 ^ o))
    (set_words ws (j * 2 ^ o / 64) (2 ^ o / 64) (full v 64))

-- the block j of order o is not before `from`, and wholly free
abbrev pub hit : List ℕ → ℕ → ℕ → ℕ → Bool
hit ws o from j = both (leb from j) (eqb (held_in ws o j) 0)

-- no name: the first wholly free aligned block of the tree, upward from the one holding the row's first frame, then from the tree's first
unfoldable pub search_in : ℕ → List ℕ → ℕ → ℕ → ℕ → Option ℕ
search_in z ws tree o row =
    or_found
    (first_in (hit ws o (row * 64 / 2 ^ o)) (tree * 2 ^ (z - o)) (2 ^ (z - o)))
    (first_in (hit ws o 0) (tree * 2 ^ (z - o)) (2 ^ (z - o)))

-- the bitmap has the words of tree t; no bitmap has more than 1,024 trees
unfoldable pub has_tree : ℕ → List ℕ → ℕ → Bool
has_tree z ws t = both (leb (length ws) (1024 * tree_rows z)) (ltb t (length ws / tree_rows z))

-- the block that a get would take. Named: if it is wholly free. No name: sought in the hint row's tree
unfoldable pub lower_find : ℕ → List ℕ → ℕ → ℕ → Option ℕ → Option ℕ
lower_find z ws row o (Some f) = pick (has_tree z ws (f / tree_frames z)) (pick (eqb (held_in ws o (f / 2 ^ o)) 0) (Some (f / 2 ^ o)) None) None
lower_find z ws row o None = pick (has_tree z ws (row / tree_rows z)) (search_in z ws (row / tree_rows z) o row) None

-- a found block is held from now on; its first frame is the answer
unfoldable pub lower_take : List ℕ → ℕ → Option ℕ → Out (Option ℕ) (List ℕ)
lower_take ws o (Some j) = out (Some (j * 2 ^ o)) (mark true ws o j)
lower_take ws o None = out None ws

-- the lower's get
unfoldable pub lower_get : ℕ → List ℕ → ℕ → ℕ → Option ℕ → Out (Option ℕ) (List ℕ)
lower_get z ws row o name = lower_take ws o (lower_find z ws row o name)

-- a put needs every frame of the block held and clears their bits
unfoldable pub lower_put : ℕ → List ℕ → ℕ → ℕ → Out Bool (List ℕ)
lower_put z ws o f =
    pick (has_tree z ws (f / tree_frames z))
    (pick (eqb (held_in ws o (f / 2 ^ o)) (2 ^ o)) (out true (mark false ws o (f / 2 ^ o))) (out false ws))
    (out false ws)
