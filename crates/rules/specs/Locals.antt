-- 01, Single words (local.rs): what a take, a put, a row and a swap do to a local, and which local pays. Assumes nothing.
use Rattle.std.specs.Prelude.{Bool, true, false, List, ℕ, zero, suc, ◌+◌, ◌-◌, ◌/◌, ◌%◌, eqb, leb, set, Option, Some, None}
use Rattle.rules.specs.Base.{pick, both, ifte, first_in, Out, out}
use Rattle.rules.specs.Words.{Config, tree_frames, tree_rows, configured, locals_of, slot, local_word, local_at}
use Rattle.rules.specs.Policy.{policy}
use Rattle.rules.specs.declared.Local.{Local}
use Rattle.rules.specs.declared.Held.{Held}
use Rattle.rules.specs.declared.Payer.{Payer}
use Rattle.rules.specs.declared.Kind.{Kind}
use Rattle.rules.specs.declared.Kind.TheVariants.{Invalid, Steal, Demote, Match}

-- a present local
abbrev pub reservation : ℕ → ℕ → Local
reservation row free = record { row = row; free = free; present = true }

-- the row lies in the named frame's tree, if a frame is named
unfoldable pub in_tree : ℕ → ℕ → Option ℕ → Bool
in_tree z row None = true
in_tree z row (Some f) = eqb (row / tree_rows z) (f / tree_frames z)

-- subtract: the answer is the row; too few, or another tree than the named one: nothing changes
unfoldable pub local_take : ℕ → List ℕ → ℕ → Option ℕ → ℕ → Out Held (List ℕ)
local_take z ls j name n =
    pick (local_at ls j).present
    (pick (in_tree z (local_at ls j).row name)
    (pick (leb n (local_at ls j).free)
    (out (Held.Row (local_at ls j).row) (set ls j (local_word (reservation (local_at ls j).row ((local_at ls j).free - n)))))
    (out (Held.Few (local_at ls j).row (local_at ls j).free) ls))
    (out (Held.Few (local_at ls j).row (local_at ls j).free) ls))
    (out Held.Absent ls)

-- add to a local that holds the tree t
unfoldable pub local_put : ℕ → List ℕ → ℕ → ℕ → ℕ → Out Bool (List ℕ)
local_put z ls j t n =
    pick (local_at ls j).present
    (pick (eqb ((local_at ls j).row / tree_rows z) t)
    (out true (set ls j (local_word (reservation (local_at ls j).row ((local_at ls j).free + n)))))
    (out false ls))
    (out false ls)

-- store a row
unfoldable pub local_row : List ℕ → ℕ → ℕ → List ℕ
local_row ls j row = set ls j (local_word (record { row = row; free = (local_at ls j).free; present = (local_at ls j).present }))

-- store a local; the answer is the one that stood there
unfoldable pub local_swap : List ℕ → ℕ → Local → Out Local (List ℕ)
local_swap ls j l = out (local_at ls j) (set ls j (local_word l))

-- absent is the word 0; the answer is the local that stood there
unfoldable pub local_clear : List ℕ → ℕ → Out Local (List ℕ)
local_clear ls j = out (local_at ls j) (set ls j 0)

-- ---- the first with enough (and the named tree) pays

-- a local has enough, and the named tree
unfoldable pub has_enough : ℕ → Local → Option ℕ → ℕ → Bool
has_enough z l name n = pick l.present (pick (in_tree z l.row name) (leb n l.free) false) false

-- locals of class k from the given index cyclically: the slot of the one that is d further
unfoldable pub cyclic : List ℕ → ℕ → ℕ → ℕ → ℕ
cyclic ps k from d = slot ps k ((from + d) % locals_of ps k)

-- how far the first with enough is from the given index
unfoldable pub first_local : ℕ → List ℕ → List ℕ → ℕ → ℕ → Option ℕ → ℕ → Option ℕ
first_local z ps ls k from name n = first_in (λ d. has_enough z (local_at ls (cyclic ps k from d)) name n) 0 (locals_of ps k)

-- the local in slot j, of class k
abbrev pub paying : ℕ → ℕ → Payer
paying k j = record { class = k; slot = j }

-- the local of class k, or else the next class
unfoldable pub payer_or : List ℕ → ℕ → ℕ → Option ℕ → (Unit {0} → Option Payer) → Option Payer
payer_or ps k from (Some d) next = Some (paying k (cyclic ps k from d))
payer_or ps k from None next = next tt

-- kind Steal or Match
unfoldable pub may_pay : Kind → Bool
may_pay Invalid = false
may_pay Steal = true
may_pay Demote = false
may_pay (Match r) = true

-- kind Demote
unfoldable pub may_move : Kind → Bool
may_move Invalid = false
may_move Steal = false
may_move Demote = true
may_move (Match r) = false

-- classes k, k+1, .. modulo 8, from the i-th on, m of them, whose kind passes; of each its first local with enough
unfoldable pub payer_in : (Kind → Bool) → Config → List ℕ → ℕ → ℕ → Option ℕ → ℕ → ℕ → ℕ → Option Payer
payer_in p c ls k from name n i zero = None
payer_in p c ls k from name n i (suc m) =
    ifte (both (configured c.places ((k + i) % 8)) (p (policy c k ((k + i) % 8) n)))
    (λ _. payer_or c.places ((k + i) % 8) from (first_local c.tree_order c.places ls ((k + i) % 8) from name n) (λ _. payer_in p c ls k from name n (i + 1) m))
    (λ _. payer_in p c ls k from name n (i + 1) m)

-- steal goes over classes k, k+1, .. modulo 8 whose kind is Steal or Match
unfoldable pub steal_any : Config → List ℕ → ℕ → ℕ → Option ℕ → ℕ → Option Payer
steal_any c ls k from name n = payer_in may_pay c ls k from name n 0 8

-- demote goes over the other classes of kind Demote likewise
unfoldable pub demote_any : Config → List ℕ → ℕ → ℕ → Option ℕ → ℕ → Option Payer
demote_any c ls k from name n = payer_in may_move c ls k from name n 1 7
