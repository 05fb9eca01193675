-- 01, Bench examples: E1 to E12 as a single table with a single claim, by computing the definitions; and further worked cases for what E1 to E12
-- leave open, with figures that the Rust gave, or that 01's text gives where the Rust has no answer (Broken, Class 8, Local, Rows, a steal from a
-- class without locals). Assumes nothing.
use Rattle.std.specs.Prelude.{◌≡◌, refl, true, List, [], ◌∷◌, ◌++◌, ℕ, ◌+◌, ◌*◌, replicate, Option, Some, None}
use Rattle.rules.specs.Base.{both, ifte, all_below, sum, listed, first_in}
use Rattle.rules.specs.Words.{Config, tree_count, configured, locals_of, slot, local_count, tree_of, tree_word, local_of, local_word}
use Rattle.rules.specs.Policy.{pair_of, kind_of, cut_of, low_of, high_of, policy_of, policy, kind_at, good, pair_formed, pair_accepted, table_formed, rules_at, table_rules, frames_accepted, places_accepted, default_accepted, accepted}
use Rattle.rules.specs.Entries.{if_full, class_after, put_of, steal_kind, steal_of, reserve_kind, reserve_of, unreserve_kind, unreserve_of, sync_of, entry_put, keep_took, entry_steal, entry_unreserve, keep_taken, entry_reserve, keep_sync, entry_sync}
use Rattle.rules.specs.Locals.{in_tree, local_take, local_put, local_row, local_swap, local_clear, has_enough, cyclic, first_local, payer_or, may_pay, may_move, payer_in, steal_any, demote_any}
use Rattle.rules.specs.Lower.{held, held_in, clear_bits, clear, mark, search_in, has_tree, lower_find, lower_take, lower_get, lower_put}
use Rattle.rules.specs.declared.Request.{Request}
use Rattle.rules_calls.specs.Statistics.{over_class, entry_free, local_free, entry_alloc, reserved_free, in_use, tally, tallies, total_free, free_trees, statistics}
use Rattle.rules_calls.specs.State.{index_of, done, missed, missed_at, stuck, or_else, with_trees, with_locals, with_bits, with_try, with_look, on_took, on_taken, on_sync, on_held, on_put, on_swap, on_found, put_entry, set_row, ask_lower, unreserve, unreserve_local}
use Rattle.rules_calls.specs.FromLocals.{take_by, top_by, top_up, get_local, own_local, pay_from, steal_local, demote_to, move_from, demote_local}
use Rattle.rules_calls.specs.Walking.{walk_tree, rated_in, rate, insert, admit, steal_global, reserved_tree, reserve_or_steal, access, tried, offered, visit, on_sight, walk_steps, walk, try_list, stopped, search_best}
use Rattle.rules_calls.specs.Search.{near, round_down, rounded_start, search_far, search_from, search_and_reserve, search_and_steal}
use Rattle.rules_calls.specs.Get.{last_routes, get_at, start_tree, or_from, get_reserving, search_trees, get_any, routes}
use Rattle.rules_calls.specs.Standing.{lengths_exact, entry_stands, holder_stands, local_stands, class_stands, apart, apart_before, reserved_count, present_count, past_held, standing}
use Rattle.rules_calls.specs.Calls.{number_of, outcome_of, refuse_local, refuse_class, refusal, unless, if_standing, close, frame_of, get, put_to, on_given, put, drain_locals, on_drained, drain_classes, close_drain, drain, free_at_start, fresh_tree, fresh_word, fresh_state, start}
use Rattle.rules_calls.specs.Examples.{match255, demote, steal, table_t, table_t5, asks, gives, starts_held, drains, stands, number, tree, local, Example, answered, given, examples, further, nines, held_words, anyone, local0, all5, counted, untested, begun}

-- words in which every eighth frame is held: 1,792 frames of a tree are free, and no aligned block of eight
abbrev combed : ℕ → List ℕ
combed n = replicate n 0x0101010101010101

-- three classes with a local each, default 1: (0,0) as given, (1,1), (2,2) Match 255; (0,1) Demote; (0,2), (1,0) Steal
abbrev pub three : ℕ → ℕ → Config
three f own =
    record {
      tree_order = 11;
      frames = f;
      default = 1;
      places = 2 ∷ 2 ∷ 2 ∷ replicate 5 0;
      pairs = own ∷ demote ∷ steal ∷ replicate 5 0 ++ steal ∷ match255 ∷ replicate 8 0 ++ match255 ∷ replicate 45 0;
    }

-- two classes, default 0: class 0 has a local, class 1 none; (0,0), (1,1) Match 255; (1,0) Demote; (0,1) Steal
abbrev no_locals : Config
no_locals = record { tree_order = 11; frames = 4096; default = 0; places = 2 ∷ 1 ∷ replicate 6 0; pairs = match255 ∷ steal ∷ replicate 6 0 ++ demote ∷ match255 ∷ replicate 54 0 }

-- three classes with a local each, default 1: (0,0), (1,1), (2,2) Match 255; (0,1), (0,2) Demote; no other pair
abbrev two_demotes : Config
two_demotes = record { tree_order = 11; frames = 2048; default = 1; places = 2 ∷ 2 ∷ 2 ∷ replicate 5 0; pairs = match255 ∷ demote ∷ demote ∷ replicate 6 0 ++ match255 ∷ replicate 8 0 ++ match255 ∷ replicate 45 0 }

-- a tree with frames 0, 512, 1,024 and 1,536 held
abbrev pub notched : List ℕ
notched = 1 ∷ replicate 7 0 ++ 1 ∷ replicate 7 0 ++ 1 ∷ replicate 7 0 ++ 1 ∷ replicate 7 0

abbrev pub cases : List Example
cases =
    -- a demote moves the reservation, reduced, to the given local, and keeps its row; the entry keeps its class
    record { of = table_t 4096 1 1; calls = local0 0 1 ∷ anyone 11 0 ∷ local0 6 0 ∷ []; figures = all5 ++ tree 1 ∷ local 0 ∷ local 1 ∷ []; wants = 0 ∷ 2112 ∷ 0 ∷ 5 ∷ 1 ∷ 0x30000000 ∷ 0x807bf00000000020 ∷ 0 ∷ [] }
    -- a demote with no local unreserves it
    ∷ record { of = table_t 4096 1 1; calls = local0 0 1 ∷ anyone 11 0 ∷ anyone 6 0 ∷ []; figures = all5 ++ tree 1 ∷ local 0 ∷ local 1 ∷ []; wants = 0 ∷ 2112 ∷ 0 ∷ 2 ∷ 1 ∷ 0x7bf ∷ 0 ∷ 0 ∷ [] }
    -- an undone reservation does not restore the class
    ∷ record { of = table_t 4096 1 1; calls = stands (0x200007FC ∷ 0x200007FC ∷ []) (0 ∷ 0 ∷ []) (notched ++ notched) ∷ local0 9 0 ∷ []; figures = all5 ++ tree 0 ∷ tree 1 ∷ local 0 ∷ []; wants = 7 ∷ 0 ∷ 0 ∷ 2 ∷ 2 ∷ 0x7fc ∷ 0x7fc ∷ 0 ∷ [] }
    -- one payer only: the first local with enough; refused by the lower, its frames go to the entry
    ∷ record { of = table_t 6144 2 1; calls = stands (0x10000000 ∷ 0x10000000 ∷ 0x20000000 ∷ []) (0x807FC00000000000 ∷ 0x8080000000000020 ∷ 0 ∷ 0 ∷ []) (notched ++ replicate 32 0 ++ held_words 32) ∷ anyone 9 1 ∷ []; figures = all5 ++ tree 0 ∷ tree 1 ∷ local 0 ∷ local 1 ∷ []; wants = 7 ∷ 0 ∷ 0 ∷ 3 ∷ 1 ∷ 0x10000200 ∷ 0x10000000 ∷ 0x805fc00000000000 ∷ 0x8080000000000020 ∷ [] }
    -- an entry put that fills a reserved tree sets the default class
    ∷ record { of = table_t 4096 1 1; calls = local0 11 0 ∷ gives 11 0 None 0 ∷ []; figures = number ∷ tree 0 ∷ local 0 ∷ []; wants = 0 ∷ 0x30000800 ∷ 0x8000000000000000 ∷ [] }
    -- the near walk comes twice to a tree at n = 2 and n = 3
    ∷ record { of = table_t5 4096 1; calls = stands (1792 ∷ 1792 ∷ []) (0 ∷ 0 ∷ []) (combed 64) ∷ local0 3 0 ∷ []; figures = all5; wants = 7 ∷ 0 ∷ 0 ∷ 5 ∷ 5 ∷ [] }
    ∷ record { of = table_t5 6144 1; calls = stands (1792 ∷ 1792 ∷ 1792 ∷ []) (0 ∷ 0 ∷ []) (combed 96) ∷ local0 3 0 ∷ []; figures = all5; wants = 7 ∷ 0 ∷ 0 ∷ 6 ∷ 6 ∷ [] }
    -- the start tree is (n / locals) × the local: 8
    ∷ record { of = table_t 20480 5 1; calls = asks 0 0 (Some 4) None ∷ []; figures = all5; wants = 0 ∷ 14336 ∷ 0 ∷ 3 ∷ 1 ∷ [] }
    -- the list: Match before Demote before Steal; of two Demotes the fully free one
    ∷ record { of = three 8192 0x05000003; calls = stands (0x400007ff ∷ 0x200007ff ∷ 0x7ff ∷ 0x20000800 ∷ []) (replicate 3 0) (1 ∷ replicate 31 0 ++ 1 ∷ replicate 31 0 ++ 1 ∷ replicate 63 0) ∷ anyone 0 0 ∷ []; figures = all5; wants = 0 ∷ 4097 ∷ 0 ∷ 4 ∷ 1 ∷ [] }
    ∷ record { of = three 8192 0x05000003; calls = stands (0x400007ff ∷ 0x200007ff ∷ 0x400007ff ∷ 0x20000800 ∷ []) (replicate 3 0) (1 ∷ replicate 31 0 ++ 1 ∷ replicate 31 0 ++ 1 ∷ replicate 63 0) ∷ anyone 0 0 ∷ []; figures = all5; wants = 0 ∷ 6144 ∷ 0 ∷ 4 ∷ 1 ∷ [] }
    -- the cut is compared with the tree's own free: 2,040 is rated high, 1,000 low
    ∷ record { of = three 8192 (3 + 4 * 2000 + 65536 * 1 + 16777216 * 200); calls = stands (1000 ∷ 2040 ∷ 0x40000000 ∷ 0x40000000 ∷ []) (replicate 3 0) (held_words 16 ++ 0xffffff ∷ replicate 15 0 ++ 0xff ∷ replicate 31 0 ++ held_words 64) ∷ anyone 0 0 ∷ []; figures = all5; wants = 0 ∷ 2056 ∷ 0 ∷ 4 ∷ 1 ∷ [] }
    -- all held, then one frame given back
    ∷ record { of = table_t 4096 1 1; calls = starts_held ∷ gives 0 1 None 5 ∷ []; figures = number ∷ tree 0 ∷ tree 1 ∷ []; wants = 0 ∷ 0x20000001 ∷ 0x20000000 ∷ [] }
    -- a drain of two classes
    ∷ record { of = table_t 8192 1 1; calls = local0 0 0 ∷ local0 0 1 ∷ drains ∷ []; figures = number ∷ tree 0 ∷ tree 1 ∷ tree 3 ∷ local 0 ∷ local 1 ∷ []; wants = 0 ∷ 0x20000800 ∷ 0x200007ff ∷ 0x7ff ∷ 0 ∷ 0 ∷ [] }
    -- a put of a free frame is NotHeld
    ∷ record { of = table_t 2048 1 1; calls = gives 0 1 None 0 ∷ []; figures = number ∷ tree 0 ∷ []; wants = 8 ∷ 0x20000800 ∷ [] }
    -- class 2 is unconfigured, class 8 is none; class 0 has one local
    ∷ record { of = table_t 2048 1 1; calls = anyone 0 2 ∷ []; figures = number ∷ []; wants = 5 ∷ [] }
    ∷ record { of = table_t 2048 1 1; calls = anyone 0 8 ∷ []; figures = number ∷ []; wants = 5 ∷ [] }
    ∷ record { of = table_t 2048 1 1; calls = asks 0 0 (Some 1) None ∷ []; figures = number ∷ []; wants = 6 ∷ [] }
    -- Broken: an entry one short; a present local on an unreserved tree; an absent local that is not 0; a reserved entry without a holder;
    -- a pair that is not good
    ∷ record { of = table_t 2048 1 1; calls = stands (0x200007FF ∷ []) (0 ∷ 0 ∷ []) (replicate 32 0) ∷ anyone 0 1 ∷ []; figures = number ∷ tree 0 ∷ []; wants = 1 ∷ 0x200007FF ∷ [] }
    ∷ record { of = table_t 4096 1 1; calls = stands (0x20000800 ∷ 0x30000800 ∷ []) (0x8000000000000000 ∷ 0 ∷ []) (replicate 64 0) ∷ anyone 0 1 ∷ []; figures = number ∷ []; wants = 1 ∷ [] }
    ∷ record { of = table_t 2048 1 1; calls = stands (0x20000800 ∷ []) (5 ∷ 0 ∷ []) (replicate 32 0) ∷ anyone 0 1 ∷ []; figures = number ∷ []; wants = 1 ∷ [] }
    ∷ record { of = table_t 2048 1 1; calls = stands (0x30000800 ∷ []) (0 ∷ 0 ∷ []) (replicate 32 0) ∷ anyone 0 1 ∷ []; figures = number ∷ []; wants = 1 ∷ [] }
    ∷ record { of = table_t 2048 1 1; calls = stands (0x10000000 ∷ []) (0 ∷ 0x8080000000000000 ∷ []) (replicate 32 0) ∷ anyone 0 1 ∷ []; figures = number ∷ []; wants = 1 ∷ [] }
    -- Class before Local; Misaligned before Class; with no name too the block has to lie below F; a put tests its local, before the lower is asked
    ∷ record { of = table_t 2048 1 1; calls = asks 0 2 (Some 9) None ∷ []; figures = number ∷ []; wants = 5 ∷ [] }
    ∷ record { of = table_t 2048 1 1; calls = asks 1 8 None (Some 1) ∷ []; figures = number ∷ []; wants = 4 ∷ [] }
    ∷ record { of = table_t 1000 1 1; calls = anyone 10 0 ∷ []; figures = number ∷ []; wants = 3 ∷ [] }
    ∷ record { of = table_t 2048 1 1; calls = gives 0 0 (Some 1) 0 ∷ []; figures = number ∷ []; wants = 6 ∷ [] }
    -- the own local answers the requested class, also where the entry has another
    ∷ record { of = table_t 4096 1 1; calls = stands (0x30000000 ∷ 0x20000800 ∷ []) (0x8080000000000000 ∷ 0 ∷ []) (replicate 64 0) ∷ local0 0 0 ∷ []; figures = all5 ++ tree 0 ∷ local 0 ∷ []; wants = 0 ∷ 0 ∷ 0 ∷ 0 ∷ 1 ∷ 0x30000000 ∷ 0x807ff00000000000 ∷ [] }
    -- a reserving search steals from a tree whose class has no locals
    ∷ record { of = no_locals; calls = anyone 0 1 ∷ anyone 11 0 ∷ local0 0 0 ∷ []; figures = all5; wants = 0 ∷ 1 ∷ 1 ∷ 5 ∷ 1 ∷ [] }
    -- unreserve sets the holder's class first, and the entry put asks with it: (2, 1) is Invalid, (0, 1) is not
    ∷ record { of = two_demotes; calls = stands (0x50000000 ∷ []) (0x8080000000000000 ∷ 0 ∷ 0 ∷ []) (replicate 32 0) ∷ drains ∷ []; figures = number ∷ tree 0 ∷ local 0 ∷ []; wants = 0 ∷ 0x20000800 ∷ 0 ∷ [] }
    -- a demote to a local that is present: the displaced reservation is unreserved, with the requested class as its holder
    ∷ record { of = table_t 4096 1 1; calls = stands (0x10000000 ∷ 0x30000000 ∷ []) (0x8000100000000000 ∷ 0x8080000000000020 ∷ []) (0xfffffffffffffffe ∷ held_words 31 ++ replicate 32 0) ∷ local0 6 0 ∷ []; figures = all5 ++ tree 0 ∷ tree 1 ∷ local 0 ∷ local 1 ∷ []; wants = 0 ∷ 2048 ∷ 0 ∷ 5 ∷ 1 ∷ 1 ∷ 0x30000000 ∷ 0x807c000000000020 ∷ 0 ∷ [] }
    -- a demote moves the reservation to the given local also where locals are not below n
    ∷ record { of = table_t 2048 1 1; calls = stands (0x30000000 ∷ []) (0 ∷ 0x8080000000000000 ∷ []) (replicate 32 0) ∷ local0 0 0 ∷ []; figures = all5 ++ tree 0 ∷ local 0 ∷ local 1 ∷ []; wants = 0 ∷ 0 ∷ 0 ∷ 1 ∷ 1 ∷ 0x30000000 ∷ 0x807ff00000000000 ∷ 0 ∷ [] }
    -- the bound of looks, n + near − 1, is attained: nothing is free
    ∷ record { of = table_t 8192 1 1; calls = starts_held ∷ local0 0 0 ∷ []; figures = all5; wants = 7 ∷ 0 ∷ 0 ∷ 7 ∷ 0 ∷ [] }
    -- a full list admits no equal: the ninth tree, the only one with a block, is not tried
    ∷ record { of = table_t5 18432 1; calls = stands (replicate 4 1792 ++ 2047 ∷ replicate 4 1792) (0 ∷ 0 ∷ []) (combed 128 ++ 1 ∷ replicate 31 0 ++ combed 128) ∷ anyone 3 0 ∷ []; figures = all5; wants = 7 ∷ 0 ∷ 0 ∷ 9 ∷ 8 ∷ [] }
    -- a full tree of another class than the default stands
    ∷ record { of = table_t 2048 1 1; calls = stands (0x800 ∷ []) (0 ∷ 0 ∷ []) (replicate 32 0) ∷ anyone 0 0 ∷ []; figures = all5 ++ tree 0 ∷ []; wants = 0 ∷ 0 ∷ 0 ∷ 1 ∷ 1 ∷ 0x7ff ∷ [] }
    ∷ []

-- statistics: seven rows are Rows; an entry one too high is Broken: zeros, and the rows as they were; Broken is tried before Rows
abbrev pub tallied : List (List ℕ)
tallied = counted 0x10000001 7 ∷ counted 0x10000002 8 ∷ counted 0x10000002 7 ∷ []

abbrev pub untouched : List (List ℕ)
untouched = (11 ∷ 0 ∷ 0 ∷ replicate 6 7) ∷ (1 ∷ 0 ∷ 0 ∷ replicate 6 7) ∷ (1 ∷ 0 ∷ 0 ∷ replicate 6 7) ∷ []

-- E1 to E12, the further cases, those of nine trees, the cases and the statistics come out as given
pub claims :
    (answered examples ≡ given examples)
    × ((answered further ≡ given further) × ((answered nines ≡ given nines) × ((answered cases ≡ given cases) × (tallied ≡ untouched))))
unfolding ifte all_below sum listed first_in tree_count configured locals_of slot local_count tree_of tree_word local_of local_word pair_of kind_of cut_of low_of high_of policy_of policy kind_at good pair_formed pair_accepted table_formed rules_at table_rules frames_accepted places_accepted default_accepted accepted if_full class_after put_of steal_kind steal_of reserve_kind reserve_of unreserve_kind unreserve_of sync_of entry_put keep_took entry_steal entry_unreserve keep_taken entry_reserve keep_sync entry_sync in_tree local_take local_put local_row local_swap local_clear has_enough cyclic first_local payer_or may_pay may_move payer_in steal_any demote_any held held_in clear_bits clear mark search_in has_tree lower_find lower_take lower_get lower_put index_of done missed missed_at stuck or_else with_trees with_locals with_bits with_try with_look on_took on_taken on_sync on_held on_put on_swap on_found put_entry set_row ask_lower unreserve unreserve_local take_by top_by top_up get_local own_local pay_from steal_local demote_to move_from demote_local walk_tree rated_in rate insert admit steal_global reserved_tree reserve_or_steal access tried offered visit on_sight walk_steps walk try_list stopped search_best near round_down rounded_start search_far search_from search_and_reserve search_and_steal last_routes get_at start_tree or_from get_reserving search_trees get_any routes lengths_exact entry_stands holder_stands local_stands class_stands apart apart_before reserved_count present_count past_held standing number_of outcome_of refuse_local refuse_class refusal unless if_standing close frame_of get put_to on_given put drain_locals on_drained drain_classes close_drain drain free_at_start fresh_tree fresh_word fresh_state start over_class entry_free local_free entry_alloc reserved_free in_use tally tallies total_free free_trees statistics
claims = (refl, (refl, (refl, (refl, refl))))

pub claim : answered examples ≡ given examples
claim = claims.0

-- where the tests pass, a get and a start are what the cases of `rules_calls` compute behind them
pub get-behind : (c : Config) (q : Request) (name : Option ℕ) (t l b : List ℕ) → standing c t l b ≡ true → get c q name t l b ≡ untested c q name t l b
unfolding get if_standing ifte
get-behind c q name t l b p = rw p

pub start-behind : (c : Config) (t l b : List ℕ) → both (accepted c) (lengths_exact c t l b) ≡ true → start c true t l b ≡ begun c
unfolding start ifte free_at_start
start-behind c t l b p = rw p
