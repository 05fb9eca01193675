-- 01, Bench examples: the table of E1 to E12, and further cases, two of them of 80 trees, that refuse wrong definitions which E1 to E12 let pass, with
-- figures that the Rust gave, or that 01's text gives where the Rust has no answer. Their gets, and the start before them, are computed behind their
-- tests, since the state test is nearly all of a call's work; two Broken states and the statistics are computed with it. Crate `rules_cases` has E1 to E12
-- and the further cases but those of 80 trees with that test, and more. Assumes nothing.
use Rattle.std.specs.Prelude.{◌≡◌, refl, true, false, List, [], ◌∷◌, ◌++◌, ℕ, zero, suc, ◌+◌, ◌*◌, get_or, set, replicate, take, drop, length, Option, Some, None}
use Rattle.rules.specs.Base.{ifte, all_below, sum, listed, first_in}
use Rattle.rules.specs.Words.{Config, tree_rows, trees_of, tree_count, configured, locals_of, slot, local_count, tree_of, tree_word, local_of, local_word}
use Rattle.rules.specs.Policy.{pair_of, kind_of, cut_of, low_of, high_of, policy_of, policy, kind_at, good, pair_formed, pair_accepted, table_formed, rules_at, table_rules, frames_accepted, places_accepted, default_accepted, accepted}
use Rattle.rules.specs.Entries.{if_full, class_after, put_of, steal_kind, steal_of, reserve_kind, reserve_of, unreserve_kind, unreserve_of, sync_of, entry_put, keep_took, entry_steal, entry_unreserve, keep_taken, entry_reserve, keep_sync, entry_sync}
use Rattle.rules.specs.Locals.{in_tree, local_take, local_put, local_row, local_swap, local_clear, has_enough, cyclic, first_local, payer_or, may_pay, may_move, payer_in, steal_any, demote_any}
use Rattle.rules.specs.Lower.{held, held_in, clear_bits, clear, mark, search_in, has_tree, lower_find, lower_take, lower_get, lower_put}
use Rattle.rules.specs.declared.Request.{Request}
use Rattle.rules_calls.specs.declared.Tally.{Tally}
use Rattle.rules_calls.specs.Statistics
use Rattle.rules_calls.specs.Statistics.{Report, over_class, entry_free, local_free, entry_alloc, reserved_free, in_use, tally, total_free, free_trees, statistics}
use Rattle.rules_calls.specs.State.{index_of, done, missed, missed_at, stuck, or_else, with_trees, with_locals, with_bits, with_try, with_look, on_took, on_taken, on_sync, on_held, on_put, on_swap, on_found, put_entry, set_row, ask_lower, unreserve, unreserve_local}
use Rattle.rules_calls.specs.FromLocals.{take_by, top_by, top_up, get_local, own_local, pay_from, steal_local, demote_to, move_from, demote_local}
use Rattle.rules_calls.specs.Walking.{walk_tree, rated_in, rate, insert, admit, steal_global, reserved_tree, reserve_or_steal, access, tried, offered, visit, on_sight, walk_steps, walk, try_list, stopped, search_best}
use Rattle.rules_calls.specs.Search.{near, round_down, rounded_start, search_far, search_from, search_and_reserve, search_and_steal}
use Rattle.rules_calls.specs.Get.{last_routes, get_at, start_tree, or_from, get_reserving, search_trees, get_any, routes}
use Rattle.rules_calls.specs.Standing.{lengths_exact, entry_stands, holder_stands, local_stands, class_stands, apart, apart_before, reserved_count, present_count, past_held, standing}
use Rattle.rules_calls.specs.Calls.{Told, telling, fresh, number_of, outcome_of, refuse_local, refuse_class, refusal, unless, if_standing, close, frame_of, get, put_to, on_given, put, drain_locals, on_drained, drain_classes, close_drain, drain, free_at_start, fresh_tree, fresh_word, fresh_state, start}

-- a word of the table: a Match with cut 0, low 0, high 255
abbrev pub match255 : ℕ
match255 = 0xFF000003

-- a Demote
abbrev pub demote : ℕ
demote = 2

-- a Steal
abbrev pub steal : ℕ
steal = 1

-- the pairs of table T: (0,0), (1,1) Match; (0,1) Demote; (1,0) Steal
abbrev pub pairs_t : List ℕ
pairs_t = match255 ∷ demote ∷ replicate 6 0 ++ steal ∷ match255 ∷ replicate 54 0

-- table T with f frames, n locals for each of the classes 0 and 1, default d
abbrev pub table_t : ℕ → ℕ → ℕ → Config
table_t f n d =
    record {
      tree_order = 11;
      frames = f;
      default = d;
      places = suc n ∷ suc n ∷ replicate 6 0;
      pairs = pairs_t;
    }

-- table T with a Match of 5 in place of 255 for class 0; f frames, n locals for each class, default 1
abbrev pub table_t5 : ℕ → ℕ → Config
table_t5 f n =
    record {
      tree_order = 11;
      frames = f;
      default = 1;
      places = suc n ∷ suc n ∷ replicate 6 0;
      pairs = 0x05000003 ∷ demote ∷ replicate 6 0 ++ steal ∷ match255 ∷ replicate 54 0;
    }

-- a get (order, class, local, frame), a put, a start (all free, all held), a drain; or words stored by hand: tree t's entry, the local j, the words of the tree; or all words
pub data Call : Type 0 where
  asks : ℕ → ℕ → Option ℕ → Option ℕ → Call
  gives : ℕ → ℕ → Option ℕ → ℕ → Call
  starts starts_held drains : Call
  holds : ℕ → ℕ → ℕ → ℕ → List ℕ → Call
  stands : List ℕ → List ℕ → List ℕ → Call

-- a figure that an example gives
pub data Figure : Type 0 where
  number frame class looks tries : Figure
  tree local word : ℕ → Figure

-- what is seen of it in an answer
abbrev pub seen : Told → Figure → ℕ
seen r number = r.number
seen r frame = r.frame
seen r class = r.class
seen r looks = r.looks
seen r tries = r.tries
seen r (tree t) = get_or r.trees t 0
seen r (local j) = get_or r.locals j 0
seen r (word w) = get_or r.bits w 0

-- n words of ws from i on are xs
abbrev pub paste : List ℕ → ℕ → List ℕ → List ℕ
paste ws i xs = take i ws ++ xs ++ drop (i + length xs) ws

-- what a get of these arguments and words tells
abbrev pub Gets : Type 0
Gets = Config → Request → Option ℕ → List ℕ → List ℕ → List ℕ → Told

-- a get behind the test of the whole state: the refusals 2 to 6, then the routes
abbrev pub untested : Gets
untested c q name t l b = unless (refusal c q (frame_of name)) (fresh t l b) (λ s. close (routes c q name s))

-- what a call tells after another
abbrev pub call : Gets → Config → Told → Call → Told
call g c r (asks o k l f) = g c (record { order = o; class = k; local = l }) f r.trees r.locals r.bits
call g c r (gives o k l f) = put c (record { order = o; class = k; local = l }) f r.trees r.locals r.bits
call g c r (stands ts ls bs) = telling 0 0 0 (fresh ts ls bs)
call g c r drains = drain c r.trees r.locals r.bits
call g c r starts_held = start c false r.trees r.locals r.bits
call g c r starts = start c true r.trees r.locals r.bits
call g c r (holds t e j l xs) = telling 0 0 0 (fresh (set r.trees t e) (set r.locals j l) (paste r.bits (tree_rows c.tree_order * t) xs))

-- what the last of these calls tells
abbrev pub after : Gets → Config → Told → List Call → Told
after g c r [] = r
after g c r (x ∷ xs) = after g c (call g c r x) xs

-- an example: the configuration, all free at the start; the calls; figures of the last one
pub record Example : Type 0 where
  pub of : Config
  pub calls : List Call
  pub figures : List Figure
  pub wants : List ℕ

-- buffers that a start is lent, not clear
abbrev pub lent : Config → Told
lent c = telling 0 0 0 (fresh (replicate (trees_of c) 7) (replicate (local_count c.places) 7) (replicate (tree_rows c.tree_order * trees_of c) 7))

-- what a start tells, all free
abbrev pub started : Config → Told
started c = start c true (lent c).trees (lent c).locals (lent c).bits

-- what it tells behind its tests
abbrev pub begun : Config → Told
begun c = telling 0 0 0 (fresh_state c c.frames)

-- these figures of an answer
abbrev pub figures_of : Told → List Figure → List ℕ
figures_of r [] = []
figures_of r (x ∷ xs) = seen r x ∷ figures_of r xs

-- the figures of each example, with such a start and such gets
abbrev pub answered_by : (Config → Told) → Gets → List Example → List (List ℕ)
answered_by b g [] = []
answered_by b g (x ∷ xs) = figures_of (after g x.of (b x.of) x.calls) x.figures ∷ answered_by b g xs

-- what the examples' calls answer
abbrev pub answered : List Example → List (List ℕ)
answered xs = answered_by started get xs

-- the same with each get, and the start before them, behind its tests
abbrev pub behind : List Example → List (List ℕ)
behind xs = answered_by begun untested xs

-- the figures that the examples give
abbrev pub given : List Example → List (List ℕ)
given [] = []
given (x ∷ xs) = x.wants ∷ given xs

-- E1's request
abbrev pub e1 : Call
e1 = asks 0 0 (Some 0) None

-- E8's four frames
abbrev pub e8 : ℕ → Call
e8 f = asks 0 1 None (Some f)

-- words of 64 held frames
abbrev pub held_words : ℕ → List ℕ
held_words n = replicate n 0xFFFFFFFFFFFFFFFF

-- E1 to E12
abbrev pub examples : List Example
examples =
    -- E1 order 0, class 0, local 0
    record { of = table_t 16384 2 1; calls = e1 ∷ []; figures = number ∷ frame ∷ class ∷ looks ∷ tries ∷ tree 7 ∷ local 0 ∷ []; wants = 0 ∷ 14336 ∷ 0 ∷ 3 ∷ 1 ∷ 0x10000000 ∷ 0x807FF000000000E0 ∷ [] }
    -- E2 the same after E1
    ∷ record { of = table_t 16384 2 1; calls = e1 ∷ e1 ∷ []; figures = number ∷ frame ∷ looks ∷ tries ∷ []; wants = 0 ∷ 14337 ∷ 0 ∷ 1 ∷ [] }
    -- E3 order 9, class 1, local 1: start 4 was rounded to 0
    ∷ record { of = table_t 16384 2 1; calls = asks 9 1 (Some 1) None ∷ []; figures = number ∷ frame ∷ looks ∷ []; wants = 0 ∷ 0 ∷ 1 ∷ [] }
    -- E4 order 9, class 0, no local
    ∷ record { of = table_t 16384 2 1; calls = asks 9 0 None None ∷ []; figures = number ∷ frame ∷ looks ∷ tree 0 ∷ []; wants = 0 ∷ 0 ∷ 8 ∷ 0x600 ∷ [] }
    -- E5 after E4, order 0, class 1, no local
    ∷ record { of = table_t 16384 2 1; calls = asks 9 0 None None ∷ asks 0 1 None None ∷ []; figures = number ∷ frame ∷ class ∷ looks ∷ []; wants = 0 ∷ 14336 ∷ 1 ∷ 2 ∷ [] }
    -- E6 after E1, order 0, named frame 0, class 0, local 0: local unchanged
    ∷ record { of = table_t 16384 2 1; calls = e1 ∷ asks 0 0 (Some 0) (Some 0) ∷ []; figures = number ∷ frame ∷ local 0 ∷ []; wants = 0 ∷ 0 ∷ 0x807FF000000000E0 ∷ [] }
    -- E7 E1's request on the state after E1, but local free 0, entry 7's free 1, and of tree 7 only the last frame clear: no sync
    ∷ record { of = table_t 16384 2 1; calls = e1 ∷ holds 7 0x10000001 0 0x80000000000000E0 (held_words 31 ++ 0x7FFFFFFFFFFFFFFF ∷ []) ∷ e1 ∷ []; figures = number ∷ frame ∷ []; wants = 0 ∷ 2048 ∷ [] }
    -- E7 with 2, the last two clear: sync
    ∷ record { of = table_t 16384 2 1; calls = e1 ∷ holds 7 0x10000002 0 0x80000000000000E0 (held_words 31 ++ 0x3FFFFFFFFFFFFFFF ∷ []) ∷ e1 ∷ []; figures = number ∷ frame ∷ local 0 ∷ []; wants = 0 ∷ 16382 ∷ 0x80001000000000FF ∷ [] }
    -- E8 named frames 0, 512, 1,024, 1,536 taken at order 0 by class 1, no local
    ∷ record { of = table_t 2048 1 1; calls = e8 0 ∷ e8 512 ∷ e8 1024 ∷ e8 1536 ∷ []; figures = number ∷ tree 0 ∷ []; wants = 0 ∷ 0x200007FC ∷ [] }
    -- E8 then order 9, class 0, no local: Memory
    ∷ record { of = table_t 2048 1 1; calls = e8 0 ∷ e8 512 ∷ e8 1024 ∷ e8 1536 ∷ asks 9 0 None None ∷ []; figures = number ∷ tree 0 ∷ []; wants = 7 ∷ 0x7FC ∷ [] }
    -- E9 order 12: Order. Order 11 at F = 2,048: Done
    ∷ record { of = table_t 2048 1 1; calls = asks 12 0 None None ∷ []; figures = number ∷ []; wants = 2 ∷ [] }
    ∷ record { of = table_t 2048 1 1; calls = asks 11 0 None None ∷ []; figures = number ∷ []; wants = 0 ∷ [] }
    -- E10 frame 2,049 order 1 is Bounds; frame 1 order 1 is Misaligned
    ∷ record { of = table_t 2049 1 1; calls = asks 1 0 None (Some 2049) ∷ []; figures = number ∷ []; wants = 3 ∷ [] }
    ∷ record { of = table_t 2049 1 1; calls = asks 1 0 None (Some 1) ∷ []; figures = number ∷ []; wants = 4 ∷ [] }
    -- E11 frame 2^64 − 1, order 0: Bounds
    ∷ record { of = table_t 16384 2 1; calls = asks 0 0 None (Some 0xFFFFFFFFFFFFFFFF) ∷ []; figures = number ∷ []; wants = 3 ∷ [] }
    -- E12 T with default 0: Config
    ∷ record { of = table_t 16384 2 0; calls = starts ∷ []; figures = number ∷ []; wants = 10 ∷ [] }
    ∷ []

-- ---- further cases

-- an unnamed get without a local
abbrev pub anyone : ℕ → ℕ → Call
anyone o k = asks o k None None

-- an unnamed get with local 0
abbrev pub local0 : ℕ → ℕ → Call
local0 o k = asks o k (Some 0) None

-- all five figures of a get
abbrev pub all5 : List Figure
all5 = number ∷ frame ∷ class ∷ looks ∷ tries ∷ []

-- words in which the first frame is held: 2,016 frames of a tree are free, and no aligned block of 64
abbrev pub dotted : ℕ → List ℕ
dotted n = replicate n 1

-- by hand: tree t of class 0, unreserved, with such words; local 0 absent
abbrev pub dots : ℕ → Call
dots t = holds t 2016 0 0 (dotted 32)

-- cases that E1 to E12 leave open
abbrev pub further : List Example
further =
    -- a steal from a local answers that local's class, and keeps its row
    record { of = table_t 4096 1 1; calls = local0 0 0 ∷ anyone 11 1 ∷ anyone 6 1 ∷ []; figures = all5 ++ tree 1 ∷ local 0 ∷ []; wants = 0 ∷ 2112 ∷ 0 ∷ 2 ∷ 1 ∷ 0x10000000 ∷ 0x807bf00000000020 ∷ [] }
    -- a named frame in another tree: the own local is synced all the same, and keeps the frames
    ∷ record { of = table_t 4096 1 1; calls = stands (0x20000800 ∷ 0x10000005 ∷ []) (0x8000000000000020 ∷ 0 ∷ []) (replicate 32 0 ++ held_words 31 ++ 0x07ffffffffffffff ∷ []) ∷ asks 0 0 (Some 0) (Some 0) ∷ []; figures = all5 ++ tree 1 ∷ local 0 ∷ []; wants = 0 ∷ 0 ∷ 0 ∷ 0 ∷ 1 ∷ 0x10000000 ∷ 0x8000500000000020 ∷ [] }
    -- locals not below n: the stealing search, and no reservation
    ∷ record { of = table_t 2048 1 1; calls = local0 0 1 ∷ []; figures = all5 ++ tree 0 ∷ local 1 ∷ []; wants = 0 ∷ 0 ∷ 1 ∷ 1 ∷ 1 ∷ 0x200007ff ∷ 0 ∷ [] }
    -- a present own reservation that failed gives its tree as the start: 8
    ∷ record { of = table_t 18432 1 1; calls = holds 8 0x10000000 0 0x8000000000000100 (held_words 32) ∷ local0 0 0 ∷ []; figures = all5; wants = 0 ∷ 14336 ∷ 0 ∷ 3 ∷ 1 ∷ [] }
    -- with none the start is (n / locals) times the local: 2
    ∷ record { of = table_t 6144 3 1; calls = asks 0 1 (Some 2) None ∷ []; figures = all5 ++ tree 2 ∷ []; wants = 0 ∷ 4096 ∷ 1 ∷ 1 ∷ 1 ∷ 0x200007ff ∷ [] }
    -- a reserving search that steals answers the class that the entry has
    ∷ record { of = table_t 4096 1 1; calls = stands (0x800 ∷ 0x800 ∷ []) (0 ∷ 0 ∷ []) (replicate 64 0) ∷ local0 0 1 ∷ []; figures = all5 ++ tree 0 ∷ local 1 ∷ []; wants = 0 ∷ 0 ∷ 0 ∷ 5 ∷ 1 ∷ 0x7ff ∷ 0 ∷ [] }
    -- where a steal from a local and a demote could both pay, the steal does
    ∷ record { of = table_t 4096 1 1; calls = stands (0x10000000 ∷ 0x30000000 ∷ []) (0x8080000000000000 ∷ 0x8080000000000020 ∷ []) (replicate 64 0) ∷ anyone 0 0 ∷ []; figures = all5 ++ local 0 ∷ local 1 ∷ []; wants = 0 ∷ 0 ∷ 0 ∷ 2 ∷ 1 ∷ 0x807ff00000000000 ∷ 0x8080000000000020 ∷ [] }
    -- a stealing search that steals answers the class that the entry has
    ∷ record { of = table_t 2048 1 1; calls = stands (0x800 ∷ []) (0 ∷ 0 ∷ []) (replicate 32 0) ∷ anyone 0 1 ∷ []; figures = all5 ++ tree 0 ∷ []; wants = 0 ∷ 0 ∷ 0 ∷ 1 ∷ 1 ∷ 0x7ff ∷ [] }
    ∷ []

-- cases of nine trees that the lower refuses
abbrev pub nines : List Example
nines =
    -- the far list holds eight: the tree found last, 4, is not tried; Memory leaves the bitmap as it was
    record { of = table_t 18432 1 1; calls = stands (replicate 9 0x200007e0) (0 ∷ 0 ∷ []) (dotted 288) ∷ local0 6 0 ∷ []; figures = all5 ++ tree 5 ∷ tree 4 ∷ word 0 ∷ word 287 ∷ []; wants = 7 ∷ 0 ∷ 0 ∷ 12 ∷ 8 ∷ 0x7e0 ∷ 0x200007e0 ∷ 1 ∷ 1 ∷ [] }
    ∷ []

-- cases of 80 trees: near is 5, and the start is rounded down to a multiple of 16; their state test, which is long, is computed in no crate
abbrev pub wide : List Example
wide =
    -- the start 24 is rounded to 16, and the near walk looks at 15, 17, 14 and 18
    record { of = table_t 163840 10 1; calls = asks 0 0 (Some 3) None ∷ []; figures = all5; wants = 0 ∷ 30720 ∷ 0 ∷ 4 ∷ 1 ∷ [] }
    -- the near list holds three: 15, 17 and 14 are refused, 18, the fourth, is not tried, and the far walk begins at 16
    ∷ record { of = table_t5 163840 5; calls = dots 14 ∷ dots 15 ∷ dots 17 ∷ asks 6 0 (Some 1) None ∷ []; figures = all5 ++ tree 18 ∷ []; wants = 0 ∷ 32768 ∷ 0 ∷ 5 ∷ 4 ∷ 0x20000800 ∷ [] }
    ∷ []

-- states that are refused
abbrev pub broken : List Example
broken =
    -- Broken: bits past F clear; two locals on one tree
    record { of = table_t 2047 1 1; calls = stands (0x20000800 ∷ []) (0 ∷ 0 ∷ []) (replicate 32 0) ∷ anyone 0 1 ∷ []; figures = number ∷ []; wants = 1 ∷ [] }
    ∷ record { of = table_t 4096 2 1; calls = stands (0x10000000 ∷ 0x30000800 ∷ []) (0x8080000000000000 ∷ 0x8080000000000000 ∷ 0 ∷ 0 ∷ []) (replicate 64 0) ∷ anyone 0 1 ∷ []; figures = number ∷ []; wants = 1 ∷ [] }
    ∷ []

-- ---- statistics: number, total free, free trees, and of the rows of classes 0 and 1 free, allocated, in use

-- the figures of rows, one after the other
abbrev pub rows_of : List Tally → List ℕ
rows_of [] = []
rows_of (x ∷ xs) = x.free ∷ x.alloc ∷ x.used ∷ rows_of xs

-- the figures of a report
abbrev pub figures_in : Report → List ℕ
figures_in r = r.number ∷ r.free ∷ r.trees ∷ rows_of (take 2 r.rows)

-- so many lent rows, not clear
abbrev pub lent_rows : ℕ → List Tally
lent_rows zero = []
lent_rows (suc n) = record { free = 7; alloc = 7; used = 7 } ∷ lent_rows n

-- a wholly free tree split 1 + 2,047 is no free tree, a local that holds a whole one is; tree 1 is of class 1 and held by class 0
abbrev pub counted : ℕ → ℕ → List ℕ
counted entry0 n =
    figures_in (statistics (record { tree_order = 11; frames = 6144; default = 1; places = 3 ∷ 2 ∷ replicate 6 0; pairs = pairs_t })
    (entry0 ∷ 0x30000000 ∷ 0x20000800 ∷ []) (0x807FF00000000000 ∷ 0x8080000000000020 ∷ 0 ∷ []) (replicate 96 0) (lent_rows n))

-- E1 to E12 and the further cases come out as given behind the tests; the broken states are refused; the statistics are as given; and so come out the
-- cases of nine and of 80 trees, last, since they take longest and an edit that another case refuses is not to compute them
pub claims :
    (behind examples ≡ given examples)
    × ((behind further ≡ given further)
    × ((answered broken ≡ given broken)
    × ((counted 0x10000001 8 ≡ 0 ∷ 6144 ∷ 2 ∷ 4096 ∷ 2047 ∷ 0 ∷ 2048 ∷ 2048 ∷ 0 ∷ [])
    × ((behind nines ≡ given nines) × (behind wide ≡ given wide)))))
unfolding ifte all_below sum listed first_in tree_count configured locals_of slot local_count tree_of tree_word local_of local_word pair_of kind_of cut_of low_of high_of policy_of policy kind_at good pair_formed pair_accepted table_formed rules_at table_rules frames_accepted places_accepted default_accepted accepted if_full class_after put_of steal_kind steal_of reserve_kind reserve_of unreserve_kind unreserve_of sync_of entry_put keep_took entry_steal entry_unreserve keep_taken entry_reserve keep_sync entry_sync in_tree local_take local_put local_row local_swap local_clear has_enough cyclic first_local payer_or may_pay may_move payer_in steal_any demote_any held held_in clear_bits clear mark search_in has_tree lower_find lower_take lower_get lower_put index_of done missed missed_at stuck or_else with_trees with_locals with_bits with_try with_look on_took on_taken on_sync on_held on_put on_swap on_found put_entry set_row ask_lower unreserve unreserve_local take_by top_by top_up get_local own_local pay_from steal_local demote_to move_from demote_local walk_tree rated_in rate insert admit steal_global reserved_tree reserve_or_steal access tried offered visit on_sight walk_steps walk try_list stopped search_best near round_down rounded_start search_far search_from search_and_reserve search_and_steal last_routes get_at start_tree or_from get_reserving search_trees get_any routes lengths_exact entry_stands holder_stands local_stands class_stands apart apart_before reserved_count present_count past_held standing number_of outcome_of refuse_local refuse_class refusal unless if_standing close frame_of get put_to on_given put drain_locals on_drained drain_classes close_drain drain free_at_start fresh_tree fresh_word fresh_state start over_class entry_free local_free entry_alloc reserved_free in_use tally Statistics.tallies total_free free_trees statistics
claims = (refl, (refl, (refl, (refl, (refl, refl)))))
