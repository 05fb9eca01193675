-- 01, From a local, and Locals: the own local with its one sync; steal and demote over locals. Assumes nothing.
use Rattle.std.specs.Prelude.{ℕ, zero, suc, ◌-◌, ◌/◌, ltb, Option, Some, None}
use Rattle.rules.specs.Base.{ifte}
use Rattle.rules.specs.Words.{Config, tree_rows, slot}
use Rattle.rules.specs.Entries.{entry_sync}
use Rattle.rules.specs.Locals.{local_take, local_put, local_swap, local_clear, steal_any, demote_any}
use Rattle.rules.specs.Lower.{lower_get}
use Rattle.rules.specs.declared.Local.{Local}
use Rattle.rules.specs.declared.Request.{Request}
use Rattle.rules.specs.declared.Payer.{Payer}
use Rattle.rules_calls.specs.State.{State, Way, size, index_of, done, missed, missed_at, stuck, on_sync, on_held, on_put, on_swap, on_found, put_entry, set_row, ask_lower, unreserve, unreserve_local}

-- from a local: subtract, ask the lower at the local's row, store the found frame's row; if it refuses, the frames go to the tree's entry.
-- `up`: what to do with a local that holds too few, or another tree than the named one
unfoldable pub take_by : (ℕ → ℕ → State → Way) → Config → Request → Option ℕ → ℕ → State → Way
take_by up c q name j s =
    on_held (local_take c.tree_order s.locals j name (size q)) s
    (λ row s1. on_found (lower_get c.tree_order s1.bits row q.order name) s1
    (λ f s2. done f q.class (set_row j (f / 64) s2))
    (λ s2. missed_at (row / tree_rows c.tree_order) (put_entry c (row / tree_rows c.tree_order) (size q) s2)))
    up
    missed

-- top up: sync with shortfall 2^order minus local free, no sync where that is negative; then `again`.
-- If the topped-up local will not take the frames, they go to the entry
unfoldable pub top_by : (State → Way) → Config → Request → ℕ → ℕ → ℕ → State → Way
top_by again c q j row free s =
    ifte (ltb (size q) free) (λ _. missed_at (row / tree_rows c.tree_order) s) (λ _.
    on_sync (entry_sync s.trees (row / tree_rows c.tree_order) (size q - free)) s
    (λ x s1. on_put (local_put c.tree_order s1.locals j (row / tree_rows c.tree_order) x) s1
    again
    (λ s2. missed_at (row / tree_rows c.tree_order) (put_entry c (row / tree_rows c.tree_order) x s2)))
    (missed_at (row / tree_rows c.tree_order)))

-- taking from a local and topping it up call on each other, once round for each sync that is left
unfoldable pub top_up : ℕ → Config → Request → Option ℕ → ℕ → ℕ → ℕ → State → Way
top_up zero c q name j row free s = missed_at (row / tree_rows c.tree_order) s
top_up (suc k) c q name j row free s = top_by (take_by (top_up k c q name j) c q name j) c q j row free s

-- from the local in slot j, with k syncs left
unfoldable pub get_local : ℕ → Config → Request → Option ℕ → ℕ → State → Way
get_local k c q name j s = take_by (top_up k c q name j) c q name j s

-- own local if given, with one sync
unfoldable pub own_local : Config → Request → Option ℕ → Option ℕ → State → Way
own_local c q name (Some i) s = get_local 1 c q name (slot c.places q.class i) s
own_local c q name None s = missed s

-- ---- steal from locals

-- the payer pays; its class is answered
unfoldable pub pay_from : Config → Request → Option ℕ → Option Payer → State → Way
pay_from c q name None s = missed s
pay_from c q name (Some p) s =
    on_held (local_take c.tree_order s.locals p.slot name (size q)) s
    (λ row s1. ask_lower c q name (row / tree_rows c.tree_order) row p.class s1)
    (λ row free s1. missed s1)
    missed

-- steal from locals: the first with enough pays
unfoldable pub steal_local : Config → Request → Option ℕ → State → Way
steal_local c q name s = pay_from c q name (steal_any c s.locals q.class (index_of q.local) name (size q)) s

-- ---- demote

-- the reservation l moves to the given local and the displaced one is unreserved, or with no local it is unreserved itself
unfoldable pub demote_to : Config → Request → Option ℕ → Local → Option ℕ → State → Way
demote_to c q name l (Some i) s =
    on_swap (local_swap s.locals (slot c.places q.class i) l) s
    (λ old s1. unreserve_local c old q.class s1
    (ask_lower c q name (l.row / tree_rows c.tree_order) l.row q.class)
    stuck)
demote_to c q name l None s =
    unreserve c (l.row / tree_rows c.tree_order) q.class l.free s
    (ask_lower c q name (l.row / tree_rows c.tree_order) l.row q.class)
    stuck

-- the reservation is reduced, and leaves its local
unfoldable pub move_from : Config → Request → Option ℕ → Option Payer → State → Way
move_from c q name None s = missed s
move_from c q name (Some p) s =
    on_held (local_take c.tree_order s.locals p.slot name (size q)) s
    (λ row s1. on_swap (local_clear s1.locals p.slot) s1 (λ l s2. demote_to c q name l q.local s2))
    (λ row free s1. missed s1)
    missed

-- demote: the first with enough moves
unfoldable pub demote_local : Config → Request → Option ℕ → State → Way
demote_local c q name s = move_from c q name (demote_any c s.locals q.class (index_of q.local) name (size q)) s
