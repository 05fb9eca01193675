-- Worked cases of the single words, the table and the lower, with document 01's figures, by computing the definitions. Assumes nothing.
use Rattle.std.specs.Prelude.{◌≡◌, refl, List, [], ◌∷◌, ◌++◌, ℕ, ◌+◌, ◌*◌, replicate, Option, Some, None}
use Rattle.rules.specs.Base.{Out, out, bit_of, ifte, all_below, sum, first_in}
use Rattle.rules.specs.Words.{Config, tree_count, configured, locals_of, slot, local_count, tree_of, tree_word, local_of, local_word}
use Rattle.rules.specs.Policy.{pair_of, kind_of, cut_of, low_of, high_of, policy_of, policy, kind_at, good, pair_formed, pair_accepted, table_formed, rules_at, table_rules, frames_accepted, places_accepted, default_accepted, accepted}
use Rattle.rules.specs.Entries.{if_full, class_after, put_of, steal_kind, steal_of, reserve_kind, reserve_of, unreserve_kind, unreserve_of, sync_of}
use Rattle.rules.specs.Locals.{reservation, in_tree, local_take, has_enough, cyclic, first_local, payer_or, may_pay, may_move, payer_in, steal_any, demote_any}
use Rattle.rules.specs.Lower.{held, held_in, clear_bits, clear, mark, search_in, has_tree, lower_find, lower_take, lower_get, lower_put}
use Rattle.rules.specs.declared.Kind.{Kind}
use Rattle.rules.specs.declared.Kind.TheVariants.{Invalid, Steal, Demote, Match}
use Rattle.rules.specs.declared.Taken.{Taken}
use Rattle.rules.specs.declared.Held.{Held}
use Rattle.rules.specs.declared.Payer.{Payer}
use Rattle.rules.specs.declared.Tree.{Tree}

-- table T: (0,0), (1,1) Match, cut 0, low 0, high 255; (0,1) Demote; (1,0) Steal; classes 0 and 1 with two locals each, default d
abbrev pub table_t : ℕ → Config
table_t d =
    record {
      tree_order = 11;
      frames = 16384;
      default = d;
      places = 3 ∷ 3 ∷ replicate 6 0;
      pairs = 0xFF000003 ∷ 2 ∷ replicate 6 0 ++ 1 ∷ 0xFF000003 ∷ replicate 54 0;
    }

-- answers as numbers: the new word, 1 for a refusal (no word of these cases is 1)
abbrev pub took : Option Tree → ℕ
took None = 1
took (Some e) = tree_word e

-- a reservation's old free stands at 2^32
abbrev pub taken : Option Taken → ℕ
taken None = 1
taken (Some (Taken.Part e)) = tree_word e
taken (Some (Taken.Whole e n)) = tree_word e + 0x100000000 * n

-- a rating stands at 10; Invalid 0, Steal 1, Demote 2
abbrev pub kind : Kind → ℕ
kind Invalid = 0
kind Steal = 1
kind Demote = 2
kind (Match r) = 10 + r

-- a frame found; 9999 for none
abbrev pub found : Out (Option ℕ) (List ℕ) → ℕ
found (out (Some f) ws) = f
found (out None ws) = 9999

-- paid 1, too few or another tree 2, absent 3
abbrev pub paid : Out Held (List ℕ) → ℕ
paid (out (Held.Row row) ls) = 1
paid (out (Held.Few row free) ls) = 2
paid (out Held.Absent ls) = 3

-- the payer's class and slot: 100 + 10 × class + slot; 0 for nobody
abbrev pub payer : Option Payer → ℕ
payer None = 0
payer (Some p) = 100 + 10 * p.class + p.slot

-- the word of an entry with word w after a put of n frames
abbrev pub entry_word : ℕ → ℕ → ℕ
entry_word w n = tree_word (put_of (table_t 1) (tree_of w) n)

-- a row of 64 held frames
abbrev pub full64 : ℕ
full64 = 0xFFFFFFFFFFFFFFFF

-- what the definitions give
abbrev pub computed : List ℕ
computed =
    -- entry put: a reserved entry that becomes full gets the default class; one frame less, it keeps its own
    entry_word 0x100007FF 1 ∷ entry_word 0x100007FE 1 ∷
    -- steal: Demote sets the requested class (E4), Steal keeps the entry's; too few, or reserved: refused
    took (steal_of (table_t 1) (tree_of 0x20000800) 0 512) ∷ took (steal_of (table_t 1) (tree_of 0x800) 1 512) ∷
    took (steal_of (table_t 1) (tree_of 0x200001FF) 0 512) ∷ took (steal_of (table_t 1) (tree_of 0x30000800) 0 512) ∷
    -- reserve or steal: Demote reserves the whole (E1), Steal takes a part
    taken (reserve_of (table_t 1) (tree_of 0x20000800) 0 1) ∷ taken (reserve_of (table_t 1) (tree_of 0x800) 1 1) ∷
    -- unreserve: Match keeps the entry's class, Demote sets the holder's; an unreserved entry, or a pair that is not good: refused
    took (unreserve_of (table_t 1) (tree_of 0x10000003) 0 5) ∷ took (unreserve_of (table_t 1) (tree_of 0x30000003) 0 5) ∷
    took (unreserve_of (table_t 1) (tree_of 0x00000003) 0 5) ∷ took (unreserve_of (table_t 1) (tree_of 0x10000003) 1 5) ∷
    -- sync: strictly above the shortfall (E7), reserved only
    took (sync_of (tree_of 0x10000001) 1) ∷ took (sync_of (tree_of 0x10000002) 1) ∷ took (sync_of (tree_of 0x00000002) 1) ∷
    -- the local of E1; paid, too few, another tree than the named one, absent
    local_word (reservation 224 2047) ∷
    paid (local_take 11 (0x80001000000000E0 ∷ []) 0 None 1) ∷ paid (local_take 11 (0x80001000000000E0 ∷ []) 0 None 2) ∷
    paid (local_take 11 (0x80001000000000E0 ∷ []) 0 (Some 0) 1) ∷ paid (local_take 11 (0 ∷ []) 0 None 1) ∷
    -- policy: high where free is at least the cut, else low
    kind (policy_of 0x0201002B 10) ∷ kind (policy_of 0x0201002B 9) ∷
    -- acceptance: T; T with default 0 (E12)
    bit_of (accepted (table_t 1)) ∷ bit_of (accepted (table_t 0)) ∷
    -- the lower: upward from the block holding the row's first frame, rounded down; then from the tree's first
    found (lower_get 11 (replicate 32 0) 10 7 None) ∷ found (lower_get 11 (replicate 32 0) 11 7 None) ∷
    found (lower_get 11 (replicate 8 0 ++ replicate 8 full64 ++ replicate 16 0) 9 0 None) ∷
    found (lower_get 11 (0xFFFFFFFFFFFFFFF7 ∷ replicate 31 full64) 9 0 None) ∷
    -- named: if it is wholly free
    found (lower_get 11 (4 ∷ replicate 31 0) 0 2 (Some 4)) ∷ found (lower_get 11 (4 ∷ replicate 31 0) 0 2 (Some 0)) ∷
    -- clear bits of a tree
    clear 11 (replicate 32 0 ++ 7 ∷ replicate 31 0) 1 ∷
    -- which local pays: class 1's own from the given index cyclically, then class 0's by Steal; demote: the other classes alone
    payer (steal_any (table_t 1) (0x80001000000000E0 ∷ 0 ∷ 0x8000100000000020 ∷ 0x8000200000000040 ∷ []) 1 1 None 1) ∷
    payer (steal_any (table_t 1) (0x80001000000000E0 ∷ 0 ∷ 0x8000100000000020 ∷ 0x8000200000000040 ∷ []) 1 1 None 3) ∷
    payer (steal_any (table_t 1) (0x80005000000000E0 ∷ 0 ∷ 0x8000100000000020 ∷ 0x8000200000000040 ∷ []) 1 0 None 3) ∷
    payer (demote_any (table_t 1) (0x80005000000000E0 ∷ 0 ∷ 0x8000500000000020 ∷ 0x8000200000000040 ∷ []) 0 0 None 3) ∷
    payer (demote_any (table_t 1) (0x80005000000000E0 ∷ 0 ∷ 0x8000500000000020 ∷ 0x8000200000000040 ∷ []) 1 0 None 3) ∷ []

-- what they have to give
abbrev pub wanted : List ℕ
wanted =
    0x30000800 ∷ 0x100007FF ∷
    0x600 ∷ 0x600 ∷
    1 ∷ 1 ∷
    0x80010000000 ∷ 0x7FF ∷
    0x8 ∷ 0x8 ∷
    1 ∷ 1 ∷
    1 ∷ 0x10000000 ∷ 1 ∷
    0x807FF000000000E0 ∷
    1 ∷ 2 ∷
    2 ∷ 3 ∷
    12 ∷ 11 ∷
    1 ∷ 0 ∷
    640 ∷ 640 ∷
    1024 ∷
    3 ∷
    4 ∷ 9999 ∷
    2045 ∷
    113 ∷
    0 ∷
    100 ∷
    112 ∷
    0 ∷ []

-- both are one
pub claim : computed ≡ wanted
unfolding ifte all_below sum first_in tree_count configured locals_of slot local_count tree_of tree_word local_of local_word pair_of kind_of cut_of low_of high_of policy_of policy kind_at good pair_formed pair_accepted table_formed rules_at table_rules frames_accepted places_accepted default_accepted accepted if_full class_after put_of steal_kind steal_of reserve_kind reserve_of unreserve_kind unreserve_of sync_of in_tree local_take has_enough cyclic first_local payer_or may_pay may_move payer_in steal_any demote_any held held_in clear_bits clear mark search_in has_tree lower_find lower_take lower_get lower_put
claim = refl
