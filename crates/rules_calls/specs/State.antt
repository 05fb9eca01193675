-- 01, The routes of get: the lent words with the counts, how a route ends, and the steps that routes are made of. Assumes nothing.
use Rattle.std.specs.Prelude.{Bool, true, false, List, ℕ, ◌+◌, ◌/◌, ◌^◌, Option, Some, None}
use Rattle.rules.specs.Base.{ifte, Out, out}
use Rattle.rules.specs.Words.{Config, tree_rows}
use Rattle.rules.specs.Entries.{entry_put, entry_unreserve}
use Rattle.rules.specs.Locals.{local_row}
use Rattle.rules.specs.Lower.{lower_get}
use Rattle.rules.specs.declared.Tree.{Tree}
use Rattle.rules.specs.declared.Local.{Local}
use Rattle.rules.specs.declared.Request.{Request}
use Rattle.rules.specs.declared.Taken.{Taken}
use Rattle.rules.specs.declared.Held.{Held}
use Rattle.rules_calls.specs.declared.Got.{Got}
use Rattle.rules_calls.specs.declared.Routed.{Routed}

-- the lent words, and the counts of the call: looks (entries read by walks), tries (lower calls)
pub record State : Type 0 where
  pub trees : List ℕ
  pub locals : List ℕ
  pub bits : List ℕ
  pub looks : ℕ
  pub tries : ℕ

-- a state of these words and counts
abbrev pub st : List ℕ → List ℕ → List ℕ → ℕ → ℕ → State
st t l b i k = record { trees = t; locals = l; bits = b; looks = i; tries = k }

-- how a route ends, and the state that it leaves
abbrev pub Way : Type 0
Way = Out Got State

-- what a function of the code answers and leaves
abbrev pub ended : Routed → List ℕ → List ℕ → List ℕ → Way
ended r t l b = out r.got (st t l b r.counts.looks r.counts.tries)

-- the frames asked for, 2^order
abbrev pub size : Request → ℕ
size q = 2 ^ q.order

-- the given index, 0 if none
unfoldable pub index_of : Option ℕ → ℕ
index_of (Some i) = i
index_of None = 0

-- ---- ends

-- a route that found frame f for class k
unfoldable pub done : ℕ → ℕ → State → Way
done f k s = out (Got.Done f k) s

-- a route that came back empty
unfoldable pub missed : State → Way
missed s = out Got.Missed s

-- the same, with a present own reservation on tree t
unfoldable pub missed_at : ℕ → State → Way
missed_at t s = out (Got.MissedAt t) s

-- a return of a reservation that was refused
unfoldable pub stuck : State → Way
stuck s = out Got.Stuck s

-- the next route is asked where this one came back empty
unfoldable pub or_else : Way → (State → Way) → Way
or_else (out (Got.Done f k) s) next = out (Got.Done f k) s
or_else (out Got.Missed s) next = next s
or_else (out (Got.MissedAt t) s) next = next s
or_else (out Got.Stuck s) next = out Got.Stuck s

-- ---- steps: an operation's answer, and how the route goes on

-- other tree words
unfoldable pub with_trees : State → List ℕ → State
with_trees s t = st t s.locals s.bits s.looks s.tries

-- other local words
unfoldable pub with_locals : State → List ℕ → State
with_locals s l = st s.trees l s.bits s.looks s.tries

-- other bitmap words
unfoldable pub with_bits : State → List ℕ → State
with_bits s b = st s.trees s.locals b s.looks s.tries

-- a lower call of a get is a try
unfoldable pub with_try : State → List ℕ → State
with_try s b = st s.trees s.locals b s.looks (s.tries + 1)

-- an entry read by a walk is a look
unfoldable pub with_look : State → State
with_look s = st s.trees s.locals s.bits (s.looks + 1) s.tries

-- after a steal or an unreserve: the new entry, or refused
unfoldable pub on_took : {A : Type 0} → Out (Option Tree) (List ℕ) → State → (Tree → State → A) → (State → A) → A
on_took (out (Some e) t) s hit miss = hit e (with_trees s t)
on_took (out None t) s hit miss = miss (with_trees s t)

-- after a reserve or steal: a part, the whole with its old free, or refused
unfoldable pub on_taken : {A : Type 0} → Out (Option Taken) (List ℕ) → State → (Tree → State → A) → (ℕ → State → A) → (State → A) → A
on_taken (out (Some (Taken.Part e)) t) s part whole miss = part e (with_trees s t)
on_taken (out (Some (Taken.Whole e n)) t) s part whole miss = whole n (with_trees s t)
on_taken (out None t) s part whole miss = miss (with_trees s t)

-- after a sync: the frames, or none
unfoldable pub on_sync : {A : Type 0} → Out (Option ℕ) (List ℕ) → State → (ℕ → State → A) → (State → A) → A
on_sync (out (Some n) t) s hit miss = hit n (with_trees s t)
on_sync (out None t) s hit miss = miss (with_trees s t)

-- after a local was asked: paid at its row, too few or another tree, absent
unfoldable pub on_held : {A : Type 0} → Out Held (List ℕ) → State → (ℕ → State → A) → (ℕ → ℕ → State → A) → (State → A) → A
on_held (out (Held.Row row) l) s paid few absent = paid row (with_locals s l)
on_held (out (Held.Few row free) l) s paid few absent = few row free (with_locals s l)
on_held (out Held.Absent l) s paid few absent = absent (with_locals s l)

-- after frames were put to a local: taken, or not
unfoldable pub on_put : {A : Type 0} → Out Bool (List ℕ) → State → (State → A) → (State → A) → A
on_put (out true l) s hit miss = hit (with_locals s l)
on_put (out false l) s hit miss = miss (with_locals s l)

-- after a local was stored: the one that stood there
unfoldable pub on_swap : {A : Type 0} → Out Local (List ℕ) → State → (Local → State → A) → A
on_swap (out old l) s next = next old (with_locals s l)

-- after a lower call, which is a try: the frame found, or none
unfoldable pub on_found : {A : Type 0} → Out (Option ℕ) (List ℕ) → State → (ℕ → State → A) → (State → A) → A
on_found (out (Some f) b) s hit miss = hit f (with_try s b)
on_found (out None b) s hit miss = miss (with_try s b)

-- ---- what several routes do

-- frames come back to the entry of tree t
unfoldable pub put_entry : Config → ℕ → ℕ → State → State
put_entry c t n s = with_trees s (entry_put c s.trees t n)

-- the found frame's row is stored
unfoldable pub set_row : ℕ → ℕ → State → State
set_row j row s = with_locals s (local_row s.locals j row)

-- the lower is asked once, at a row of tree t, for frames that were taken of that tree; refused, they go to its entry
unfoldable pub ask_lower : Config → Request → Option ℕ → ℕ → ℕ → ℕ → State → Way
ask_lower c q name t row k s =
    on_found (lower_get c.tree_order s.bits row q.order name) s
    (λ f s1. done f k s1)
    (λ s1. missed (put_entry c t (size q) s1))

-- the reservation on tree t, held by class k with n free, is returned; Stuck leaves the words as the step before left them
unfoldable pub unreserve : {A : Type 0} → Config → ℕ → ℕ → ℕ → State → (State → A) → (State → A) → A
unreserve c t k n s next fails = on_took (entry_unreserve c s.trees t k n) s (λ e. next) fails

-- the same of a local of class k, if it is present
unfoldable pub unreserve_local : {A : Type 0} → Config → Local → ℕ → State → (State → A) → (State → A) → A
unreserve_local c l k s next fails =
    ifte l.present (λ _. unreserve c (l.row / tree_rows c.tree_order) k l.free s next fails) (λ _. next s)
