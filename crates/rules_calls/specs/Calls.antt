-- 01, Numbered outcomes, and the exported calls start, get, put, drain. Assumes nothing.
use Rattle.std.specs.Prelude.{Bool, true, false, List, ℕ, zero, suc, ◌+◌, ◌-◌, ◌*◌, ◌/◌, ◌%◌, ◌^◌, eqb, leb, ltb, Option, Some, None, Result, Ok, Err, ⊤}
use Rattle.rules.specs.Base.{pick, both, ifte, listed, Out, out}
use Rattle.rules.specs.Words.{Config, tree_frames, tree_rows, trees_of, configured, locals_of, slot, local_count, tree_word, entry}
use Rattle.rules.specs.Policy.{accepted}
use Rattle.rules.specs.Locals.{local_put, local_clear}
use Rattle.rules.specs.Lower.{lower_put}
use Rattle.rules.specs.declared.Request.{Request}
use Rattle.rules_calls.specs.declared.Got.{Got}
use Rattle.rules_calls.specs.declared.Refusal.{Refusal}
use Rattle.rules_calls.specs.declared.Granted.{Granted}
use Rattle.rules_calls.specs.declared.Reply.{Reply}
use Rattle.rules_calls.specs.State.{State, st, Way, size, with_bits, on_put, on_swap, put_entry, unreserve_local}
use Rattle.rules_calls.specs.Get.{routes}
use Rattle.rules_calls.specs.Standing.{standing, lengths_exact}

-- ---- numbered outcomes

-- the number of each refusal; 0 is Done
unfoldable pub number_of : Refusal → ℕ
number_of Refusal.Broken = 1
number_of Refusal.Order = 2
number_of Refusal.Bounds = 3
number_of Refusal.Misaligned = 4
number_of Refusal.Class = 5
number_of Refusal.Local = 6
number_of Refusal.Memory = 7
number_of Refusal.NotHeld = 8
number_of Refusal.Stuck = 9
number_of Refusal.Config = 10
number_of Refusal.Rows = 11

-- the number of an outcome
unfoldable pub outcome_of : Result ⊤ Refusal → ℕ
outcome_of (Ok u) = 0
outcome_of (Err x) = number_of x

-- what a call tells: the number, the frame and class of a get that is Done, its counts; and the words that it leaves.
-- A refused get names no frame and no class: zeros
pub record Told : Type 0 where
  pub number : ℕ
  pub frame : ℕ
  pub class : ℕ
  pub looks : ℕ
  pub tries : ℕ
  pub trees : List ℕ
  pub locals : List ℕ
  pub bits : List ℕ

-- number n, frame f, class k, with the counts and words of a state
abbrev pub telling : ℕ → ℕ → ℕ → State → Told
telling n f k s = record { number = n; frame = f; class = k; looks = s.looks; tries = s.tries; trees = s.trees; locals = s.locals; bits = s.bits }

-- a call's words before it, with no counts
abbrev pub fresh : List ℕ → List ℕ → List ℕ → State
fresh t l b = st t l b 0 0

-- the number and the values of each case of a get's answer
unfoldable pub tell_get : Result Granted Refusal → State → Told
tell_get (Ok g) s = telling 0 g.frame g.class s
tell_get (Err x) s = telling (number_of x) 0 0 s

-- what the code's get answers and leaves
abbrev pub told_get : Reply → List ℕ → List ℕ → List ℕ → Told
told_get r t l b = tell_get r.granted (st t l b r.looks r.tries)

-- what the code's start, put and drain answer and leave
abbrev pub told : Result ⊤ Refusal → List ℕ → List ℕ → List ℕ → Told
told r t l b = telling (outcome_of r) 0 0 (fresh t l b)

-- ---- refusals 2 to 6, tried in that order; 0 if none is given

-- a local given, not below its class's number
unfoldable pub refuse_local : Config → ℕ → Option ℕ → ℕ
refuse_local c k (Some i) = pick (ltb i (locals_of c.places k)) 0 6
refuse_local c k None = 0

-- class above 7 or unconfigured
unfoldable pub refuse_class : Config → Request → ℕ
refuse_class c q = pick (ltb 7 q.class) 5 (pick (configured c.places q.class) (refuse_local c q.class q.local) 5)

-- order above 11; frame + 2^order above F; frame not a multiple of 2^order
unfoldable pub refusal : Config → Request → ℕ → ℕ
refusal c q f =
    ifte (ltb c.tree_order q.order) (λ _. 2) (λ _.
    ifte (ltb c.frames (f + 2 ^ q.order)) (λ _. 3) (λ _.
    ifte (eqb (f % 2 ^ q.order) 0) (λ _. refuse_class c q) (λ _. 4)))

-- refused with that number, unchanged; or on
unfoldable pub unless : ℕ → State → (State → Told) → Told
unless zero s next = next s
unless (suc n) s next = telling (suc n) 0 0 s

-- Broken first
unfoldable pub if_standing : Config → State → (State → Told) → Told
if_standing c s next = ifte (standing c s.trees s.locals s.bits) (λ _. next s) (λ _. telling 1 0 0 s)

-- ---- get

-- Done; Memory where every route came back empty; Stuck
unfoldable pub close : Way → Told
close (out (Got.Done f k) s) = telling 0 f k s
close (out Got.Missed s) = telling 7 0 0 s
close (out (Got.MissedAt t) s) = telling 7 0 0 s
close (out Got.Stuck s) = telling 9 0 0 s

-- no named frame: 0
unfoldable pub frame_of : Option ℕ → ℕ
frame_of None = 0
frame_of (Some f) = f

-- get: Broken, refusals 2 to 6, then the routes
unfoldable pub get : Config → Request → Option ℕ → List ℕ → List ℕ → List ℕ → Told
get c q name t l b =
    if_standing c (fresh t l b)
    (λ s. unless (refusal c q (frame_of name)) s
    (λ s1. close (routes c q name s1)))

-- ---- put

-- the given local if it holds that tree, else the entry
unfoldable pub put_to : Config → Request → ℕ → Option ℕ → State → State
put_to c q f (Some i) s =
    on_put (local_put c.tree_order s.locals (slot c.places q.class i) (f / tree_frames c.tree_order) (size q)) s
    (λ s1. s1)
    (put_entry c (f / tree_frames c.tree_order) (size q))
put_to c q f None s = put_entry c (f / tree_frames c.tree_order) (size q) s

-- lower first: a block with a free frame is NotHeld
unfoldable pub on_given : Out Bool (List ℕ) → State → (State → State) → Told
on_given (out true b) s next = telling 0 0 0 (next (with_bits s b))
on_given (out false b) s next = telling 8 0 0 (with_bits s b)

-- put: Broken, refusals 2 to 6, then the lower and the local or entry
unfoldable pub put : Config → Request → ℕ → List ℕ → List ℕ → List ℕ → Told
put c q f t l b =
    if_standing c (fresh t l b)
    (λ s. unless (refusal c q f) s
    (λ s1. on_given (lower_put c.tree_order s1.bits q.order f) s1 (put_to c q f q.local)))

-- ---- drain

-- each reservation unreserved: of class k, n locals from index i on; false where one is stuck
unfoldable pub drain_locals : ℕ → Config → ℕ → ℕ → State → Out Bool State
drain_locals zero c k i s = out true s
drain_locals (suc n) c k i s =
    on_swap (local_clear s.locals (slot c.places k i)) s
    (λ l s1. unreserve_local c l k s1 (drain_locals n c k (i + 1)) (out false))

-- the next class, unless one was stuck
unfoldable pub on_drained : Out Bool State → (State → Out Bool State) → Out Bool State
on_drained (out true s) next = next s
on_drained (out false s) next = out false s

-- by class, then index: n classes from k on
unfoldable pub drain_classes : ℕ → Config → ℕ → State → Out Bool State
drain_classes zero c k s = out true s
drain_classes (suc n) c k s = on_drained (drain_locals (locals_of c.places k) c k 0 s) (drain_classes n c (k + 1))

-- Done, or Stuck as the step before left the words
unfoldable pub close_drain : Out Bool State → Told
close_drain (out true s) = telling 0 0 0 s
close_drain (out false s) = telling 9 0 0 s

-- drain: Broken, then every reservation returned
unfoldable pub drain : Config → List ℕ → List ℕ → List ℕ → Told
drain c t l b = if_standing c (fresh t l b) (λ s. close_drain (drain_classes 8 c 0 s))

-- ---- start

-- how many frames are free: all free, or all held
unfoldable pub free_at_start : Bool → ℕ → ℕ
free_at_start true f = f
free_at_start false f = 0

-- the smaller of two
abbrev pub at_most : ℕ → ℕ → ℕ
at_most m x = pick (leb m x) m x

-- entry t, where the first f frames are free: default class, unreserved
unfoldable pub fresh_tree : ℕ → ℕ → ℕ → ℕ → ℕ
fresh_tree z d f t = tree_word (entry (at_most (tree_frames z) (f - tree_frames z * t)) false d)

-- bitmap word w, where the first f frames are free
unfoldable pub fresh_word : ℕ → ℕ → ℕ
fresh_word f w = 2 ^ 64 - 2 ^ at_most 64 (f - 64 * w)

-- the words that a start writes; locals are absent
unfoldable pub fresh_state : Config → ℕ → State
fresh_state c f =
    fresh (listed (fresh_tree c.tree_order c.default f) 0 (trees_of c))
    (listed (λ j. 0) 0 (local_count c.places))
    (listed (fresh_word f) 0 (tree_rows c.tree_order * trees_of c))

-- a start tries only Config: F, classes, default, table, lengths
unfoldable pub start : Config → Bool → List ℕ → List ℕ → List ℕ → Told
start c all_free t l b =
    ifte (both (accepted c) (lengths_exact c t l b))
    (λ _. telling 0 0 0 (fresh_state c (free_at_start all_free c.frames)))
    (λ _. telling 10 0 0 (fresh t l b))
