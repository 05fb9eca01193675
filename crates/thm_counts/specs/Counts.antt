-- Looks and tries of a get under their bounds, on any state and for any request. Assumes nothing.
use Rattle.std.specs.Prelude.{◌≡◌, refl, Bool, true, false, ltb, Option, Some, None}
use Rattle.std.proofs.Common.{ltb-false}
use mathlib.Core.List.{List, [], ◌∷◌}
use Prim.Native.Nat.{ℕ, zero, suc, ◌+◌, ◌-◌, ◌*◌, ◌/◌, ◌≤◌}
use native.Mathlib.Omega.{arith}
use Rattle.std.proofs.Math.ListN.{length, length-take}
use Rattle.rules.specs.Base.{pick, bit_of, Out, out}
use Rattle.rules.specs.Words.{Config, tree_frames, tree_rows, huge_order, trees_of, locals_of, slot, entry_at}
use Rattle.rules.specs.Entries.{entry_steal, entry_reserve, entry_sync}
use Rattle.rules.specs.Locals.{local_take, local_put, local_swap, local_clear, steal_any, demote_any}
use Rattle.rules.specs.Lower.{lower_get}
use Rattle.rules.specs.declared.Local.{Local}
use Rattle.rules.specs.declared.Request.{Request}
use Rattle.rules.specs.declared.Payer.{Payer}
use Rattle.rules_calls.specs.declared.Got.{Got}
use Rattle.rules_calls.specs.declared.Walk.{Walk}
use Rattle.rules_calls.specs.State.{State, Way, size, index_of, done, missed, missed_at, stuck, or_else, with_trees, with_locals, with_try, with_look, put_entry, set_row, ask_lower}
use Rattle.rules_calls.specs.FromLocals.{take_by, top_by, top_up, get_local, own_local, pay_from, steal_local, demote_to, move_from, demote_local}
use Rattle.rules_calls.specs.Walking.{walk_tree, is_full, rate, Candidate, rated, insert, admit, steal_global, reserved_tree, reserve_or_steal, access, Sight, visit, walk_steps, walk, try_list, stopped, search_best}
use Rattle.rules_calls.specs.Search.{near, rounded_start, search_far, search_from, search_and_reserve, search_and_steal}
use Rattle.rules_calls.specs.Get.{last_routes, get_at, start_tree, get_reserving, search_trees, get_any, routes}
use Rattle.rules_calls.specs.Calls.{Told, fresh, refusal, close, frame_of, get}
use Rattle.law_calls.specs.Steps.{ifte-ind, else-ind, from-ind}
use Rattle.law_calls.specs.Walks.{tried-ind, visit-ind, sight-ind}
use Rattle.law_calls.specs.Answers.{unless-ind, standing-ind}
use Rattle.law_calls.specs.Best.{insert-length}
use Rattle.law_calls.specs.Ways.{took-any, taken-any, sync-any, held_any, put-any, swap_any, found-any, unreserve-any, unreserve_local-any}

-- from l looks and t tries: at most d looks more, and at most a tries more than looks more
abbrev pub Cost : ℕ → ℕ → ℕ → ℕ → Way → Type 0
Cost l t d a (out g s) = (s.looks ≤ l + d) × (s.tries + l ≤ t + s.looks + a)

weaker : (l t d a d2 a2 : ℕ) (w : Way) → d ≤ d2 → a ≤ a2 → Cost l t d a w → Cost l t d2 a2 w
weaker l t d a d2 a2 (out g s) p q C = (omega (arith, C.0), omega (arith, C.1))

-- the counts go on from those of the state before
on : (l t d a e b : ℕ) (s : State) (w : Way) → (s.looks ≤ l + d) × (s.tries + l ≤ t + s.looks + a) → Cost s.looks s.tries e b w → Cost l t (d + e) (a + b) w
on l t d a e b s (out g v) C D = (omega (arith, C.0, D.0), omega (arith, C.1, D.1))

else-cost : (l t d a e b : ℕ) (w : Way) (next : State → Way) → Cost l t d a w → ((s : State) → Cost s.looks s.tries e b (next s)) → Cost l t (d + e) (a + b) (or_else w next)
else-cost l t d a e b w next C f =
    else-ind (Cost l t d a) (Cost l t (d + e) (a + b)) w C (λ x k s h. (omega (arith, h.0), omega (arith, h.1))) (λ s h. (omega (arith, h.0), omega (arith, h.1))) next
    (λ s h. on l t d a e b s (next s) h (f s)) (λ x s h. on l t d a e b s (next s) h (f s))

module _ (c : Config) (q : Request) where
  -- one lower call at most
  abbrev One : State → Way → Type 0
  One s w = Cost s.looks s.tries 0 1 w

  ask_lower-one : (name : Option ℕ) (t row k : ℕ) (s : State) → One s (ask_lower c q name t row k s)
  unfolding ask_lower done missed put_entry with_trees with_try
  ask_lower-one name t row k s =
      found-any (One s) (lower_get c.tree_order s.bits row q.order name) s _ _ (λ f b. (omega arith, omega arith)) (λ b. (omega arith, omega arith))

  take_by-one : (up : ℕ → ℕ → State → Way) → ((row free : ℕ) (s : State) → One s (up row free s)) → (name : Option ℕ) (j : ℕ) (s : State) → One s (take_by up c q name j s)
  unfolding take_by done missed missed_at put_entry set_row with_trees with_locals with_try
  take_by-one up f name j s =
      held_any (One s) (local_take c.tree_order s.locals j name (size q)) s _ _ _
      (λ row l. found-any (One s) (lower_get c.tree_order s.bits row q.order name) (with_locals s l) _ _ (λ x b. (omega arith, omega arith)) (λ b. (omega arith, omega arith)))
      (λ row free l. f row free (with_locals s l))
      (λ l. (omega arith, omega arith))

  top_up-one : (k : ℕ) (name : Option ℕ) (j row free : ℕ) (s : State) → One s (top_up k c q name j row free s)
  unfolding top_up top_by missed_at put_entry with_trees with_locals
  top_up-one zero name j row free s = (omega arith, omega arith)
  top_up-one (suc k) name j row free s =
      ifte-ind (One s) (ltb (size q) free) _ _ (λ _. (omega arith, omega arith)) (λ _.
      sync-any (One s) (entry_sync s.trees (row / tree_rows c.tree_order) (size q - free)) s _ _
      (λ x t. put-any (One s) (local_put c.tree_order s.locals j (row / tree_rows c.tree_order) x) (with_trees s t) _ _
      (λ l. take_by-one (top_up k c q name j) (top_up-one k name j) name j (with_locals (with_trees s t) l))
      (λ l. (omega arith, omega arith)))
      (λ t. (omega arith, omega arith)))

  get_local-one : (k : ℕ) (name : Option ℕ) (j : ℕ) (s : State) → One s (get_local k c q name j s)
  unfolding get_local
  get_local-one k name j s = take_by-one (top_up k c q name j) (top_up-one k name j) name j s

  own_local-one : (name : Option ℕ) (l : Option ℕ) (s : State) → One s (own_local c q name l s)
  unfolding own_local missed
  own_local-one name (Some i) s = get_local-one 1 name (slot c.places q.class i) s
  own_local-one name None s = (omega arith, omega arith)

  steal_local-one : (name : Option ℕ) (s : State) → One s (steal_local c q name s)
  unfolding steal_local pay_from missed with_locals
  steal_local-one name s = go (steal_any c s.locals q.class (index_of q.local) name (size q))
    where
      go : (x : Option Payer) → One s (pay_from c q name x s)
      go None = (omega arith, omega arith)
      go (Some p) =
          held_any (One s) (local_take c.tree_order s.locals p.slot name (size q)) s _ _ _
          (λ row l. ask_lower-one name (row / tree_rows c.tree_order) row p.class (with_locals s l))
          (λ row free l. (omega arith, omega arith))
          (λ l. (omega arith, omega arith))

  demote_to-one : (name : Option ℕ) (l : Local) (g : Option ℕ) (s : State) → One s (demote_to c q name l g s)
  unfolding demote_to stuck with_locals with_trees
  demote_to-one name l (Some i) s =
      swap_any (One s) (local_swap s.locals (slot c.places q.class i) l) s _
      (λ old ls. unreserve_local-any (One s) c old q.class (with_locals s ls) _ _
      (λ t. ask_lower-one name _ _ q.class (with_trees (with_locals s ls) t))
      (λ t. (omega arith, omega arith)))
  demote_to-one name l None s =
      unreserve-any (One s) c _ q.class _ s _ _ (λ t. ask_lower-one name _ _ q.class (with_trees s t)) (λ t. (omega arith, omega arith))

  demote_local-one : (name : Option ℕ) (s : State) → One s (demote_local c q name s)
  unfolding demote_local move_from missed with_locals
  demote_local-one name s = go (demote_any c s.locals q.class (index_of q.local) name (size q))
    where
      go : (x : Option Payer) → One s (move_from c q name x s)
      go None = (omega arith, omega arith)
      go (Some p) =
          held_any (One s) (local_take c.tree_order s.locals p.slot name (size q)) s _ _ _
          (λ row l. swap_any (One s) (local_clear l p.slot) (with_locals s l) _ (λ old ls. demote_to-one name old q.local (with_locals (with_locals s l) ls)))
          (λ row free l. (omega arith, omega arith))
          (λ l. (omega arith, omega arith))

  -- ---- a tree that is tried
  steal_global-one : (name : Option ℕ) (t : ℕ) (s : State) → One s (steal_global c q name t s)
  unfolding steal_global missed with_trees
  steal_global-one name t s =
      took-any (One s) (entry_steal c s.trees t q.class (size q)) s _ _ (λ e ts. ask_lower-one name t _ _ (with_trees s ts)) (λ ts. (omega arith, omega arith))

  reserved-one : (j t old : ℕ) (s : State) → One s (reserved_tree c q j t old s)
  unfolding reserved_tree done missed stuck with_trees with_locals with_try
  reserved-one j t old s =
      found-any (One s) (lower_get c.tree_order s.bits (t * tree_rows c.tree_order) q.order None) s _ _
      (λ f b. swap_any (One s) (local_swap s.locals j _) (with_try s b) _
      (λ l ls. unreserve_local-any (One s) c l q.class (with_locals (with_try s b) ls) _ _ (λ ts. (omega arith, omega arith)) (λ ts. (omega arith, omega arith))))
      (λ b. unreserve-any (One s) c t q.class old (with_try s b) _ _ (λ ts. (omega arith, omega arith)) (λ ts. (omega arith, omega arith)))

  access-one : (w : Walk) (j t : ℕ) (s : State) → One s (access c q w j t s)
  unfolding access reserve_or_steal missed with_trees
  access-one Walk.Near j t s =
      taken-any (One s) (entry_reserve c s.trees t q.class (size q)) s _ _ _
      (λ e ts. ask_lower-one None t _ _ (with_trees s ts)) (λ old ts. reserved-one j t old (with_trees s ts)) (λ ts. (omega arith, omega arith))
  access-one Walk.Far j t s =
      taken-any (One s) (entry_reserve c s.trees t q.class (size q)) s _ _ _
      (λ e ts. ask_lower-one None t _ _ (with_trees s ts)) (λ old ts. reserved-one j t old (with_trees s ts)) (λ ts. (omega arith, omega arith))
  access-one Walk.Stealing j t s = steal_global-one None t s

  -- ---- the walk: each look adds at most one try, now or in the list
  admit-length : (m key t : ℕ) (xs : List Candidate) → length (admit m key t xs) ≤ suc (length xs)
  unfolding admit
  admit-length m key t xs = omega (arith, length-take m (insert key t xs), insert-length key t xs)

  list-cost : (w : Walk) (j : ℕ) (xs : List Candidate) (s : State) → Cost s.looks s.tries 0 (length xs) (try_list c q w j xs s)
  unfolding try_list missed
  list-cost w j [] s = (omega arith, omega arith)
  list-cost w j (rated k t ∷ xs) s =
      weaker s.looks s.tries (0 + 0) (1 + length xs) 0 (suc (length xs)) (or_else (access c q w j t s) (try_list c q w j xs)) (omega arith) (omega arith)
      (else-cost s.looks s.tries 0 1 0 (length xs) (access c q w j t s) (try_list c q w j xs) (access-one w j t s) (list-cost w j xs))

  -- from the list xs and the state s, d steps
  abbrev WalkCost : ℕ → List Candidate → State → Out Got Sight → Type 0
  WalkCost d xs s (out g x) = (x.state.looks ≤ s.looks + d) × (x.state.tries + length x.found + s.looks ≤ s.tries + x.state.looks + length xs)

  module _ (w : Walk) (j m n start : ℕ) where
    visit-cost : (t : ℕ) (xs : List Candidate) (s : State) → WalkCost 1 xs s (visit c q w j m t xs s)
    unfolding with_look
    visit-cost t xs s =
        let k : ℕ = 2 * rate c q w (entry_at s.trees t) + bit_of (is_full c.tree_order (entry_at s.trees t)) in
        visit-ind (WalkCost 1 xs s) c q w j m t xs s
        (λ _. tried-ind (One (with_look s)) (WalkCost 1 xs s) xs (access c q w j t (with_look s)) (access-one w j t (with_look s)) (λ g v C. (omega (arith, C.0), omega (arith, C.0, C.1))))
        (λ _. (omega arith, omega arith))
        (λ _. (omega arith, omega (arith, admit-length m k t xs)))

    steps-cost : (d i : ℕ) (xs : List Candidate) (s : State) → WalkCost d xs s (walk_steps d c q w j m n start i xs s)
    unfolding walk_steps
    steps-cost zero i xs s = (omega arith, omega arith)
    steps-cost (suc d) i xs s =
        sight-ind (WalkCost 1 xs s) (WalkCost (suc d) xs s) (visit c q w j m (walk_tree n start i) xs s) out (walk_steps d c q w j m n start (i + 1)) (visit-cost (walk_tree n start i) xs s)
        (λ f k x C. (omega (arith, C.0), omega (arith, C.1)))
        (λ x C. further x.found x.state C (walk_steps d c q w j m n start (i + 1) x.found x.state) (steps-cost d (i + 1) x.found x.state))
        (λ t x C. further x.found x.state C (walk_steps d c q w j m n start (i + 1) x.found x.state) (steps-cost d (i + 1) x.found x.state))
        (λ x C. (omega (arith, C.0), omega (arith, C.1)))
      where
        further : (ys : List Candidate) (v : State) → (v.looks ≤ s.looks + 1) × (v.tries + length ys + s.looks ≤ s.tries + v.looks + length xs)
            → (o : Out Got Sight) → WalkCost d ys v o → WalkCost (suc d) xs s o
        further ys v C (out g x) D = (omega (arith, C.0, D.0), omega (arith, C.1, D.1))

    search-cost : (first last d : ℕ) → last - first ≤ d → (s : State) → Cost s.looks s.tries d 0 (search_best c q w j m n start first last s)
    unfolding search_best walk stopped
    search-cost first last d le s =
        sight-ind (WalkCost (last - first) [] s) (Cost s.looks s.tries d 0) (walk_steps (last - first) c q w j m n start first [] s) stopped (try_list c q w j)
        (steps-cost (last - first) first [] s)
        (λ f k x C. (omega (arith, C.0), omega (arith, C.1)))
        (λ x C. list x.found x.state C (try_list c q w j x.found x.state) (list-cost w j x.found x.state))
        (λ t x C. list x.found x.state C (try_list c q w j x.found x.state) (list-cost w j x.found x.state))
        (λ x C. (omega (arith, C.0), omega (arith, C.1)))
      where
        list : (ys : List Candidate) (v : State) → (v.looks ≤ s.looks + (last - first)) × (v.tries + length ys + s.looks ≤ s.tries + v.looks + 0)
            → (o : Way) → Cost v.looks v.tries 0 (length ys) o → Cost s.looks s.tries d 0 o
        list ys v C (out g x) D = (omega (arith, C.0, D.0), omega (arith, C.1, D.1))

  -- ---- the searches
  stealing-cost : (start : ℕ) (s : State) → Cost s.looks s.tries (trees_of c) 0 (search_and_steal c q start s)
  unfolding search_and_steal
  stealing-cost start s = search-cost Walk.Stealing 0 8 (trees_of c) start 0 (trees_of c) (trees_of c) (omega arith) s

  far-cost : (j start : ℕ) (s : State) → Cost s.looks s.tries (trees_of c) 0 (search_far c q j start s)
  unfolding search_far
  far-cost j start s = search-cost Walk.Far j 8 (trees_of c) start 0 (trees_of c) (trees_of c) (omega arith) s

  reserving-cost : (j start : ℕ) (s : State) → Cost s.looks s.tries (near (trees_of c) - 1 + trees_of c) 0 (search_and_reserve c q j start s)
  unfolding search_and_reserve search_from
  reserving-cost j start s =
      ifte-ind (Cost s.looks s.tries (near (trees_of c) - 1 + trees_of c) 0) (ltb q.order (huge_order c.tree_order)) _ _
      (λ _. else-cost s.looks s.tries (near (trees_of c) - 1) 0 (trees_of c) 0 (search_best c q Walk.Near j 3 (trees_of c) (rounded_start (trees_of c) start) 1 (near (trees_of c)) s) (search_far c q j (rounded_start (trees_of c) start))
      (search-cost Walk.Near j 3 (trees_of c) (rounded_start (trees_of c) start) 1 (near (trees_of c)) (near (trees_of c) - 1) (omega arith) s) (far-cost j (rounded_start (trees_of c) start)))
      (λ _. weaker s.looks s.tries (trees_of c) 0 (near (trees_of c) - 1 + trees_of c) 0 (search_far c q j (rounded_start (trees_of c) start) s) (omega arith) (omega arith) (far-cost j (rounded_start (trees_of c) start) s))

  -- ---- the routes
  trees-cost : (l : Option ℕ) (s : State) → Cost s.looks s.tries (near (trees_of c) - 1 + trees_of c) 1 (search_trees c q l s)
  unfolding search_trees get_reserving
  trees-cost (Some i) s =
      ifte-ind (Cost s.looks s.tries (near (trees_of c) - 1 + trees_of c) 1) (ltb (locals_of c.places q.class) (trees_of c)) _ _
      (λ _. from-ind (One s) (Cost s.looks s.tries (near (trees_of c) - 1 + trees_of c) 1) (get_local 1 c q None (slot c.places q.class i) s)
      (get_local-one 1 None (slot c.places q.class i) s)
      (λ f k v C. (omega (arith, C.0), omega (arith, C.1))) (λ v C. (omega (arith, C.0), omega (arith, C.1))) _ _
      (λ v C. next (start_tree c q (Some i)) v C) (λ t v C. next t v C))
      (λ _. weaker s.looks s.tries (trees_of c) 0 (near (trees_of c) - 1 + trees_of c) 1 (search_and_steal c q (start_tree c q (Some i)) s) (omega arith) (omega arith) (stealing-cost (start_tree c q (Some i)) s))
    where
      next : (start : ℕ) (v : State) → (v.looks ≤ s.looks + 0) × (v.tries + s.looks ≤ s.tries + v.looks + 1)
          → Cost s.looks s.tries (near (trees_of c) - 1 + trees_of c) 1 (search_and_reserve c q (slot c.places q.class i) start v)
      next start v C =
          weaker s.looks s.tries (0 + (near (trees_of c) - 1 + trees_of c)) (1 + 0) (near (trees_of c) - 1 + trees_of c) 1 (search_and_reserve c q (slot c.places q.class i) start v) (omega arith) (omega arith)
          (on s.looks s.tries 0 1 (near (trees_of c) - 1 + trees_of c) 0 v (search_and_reserve c q (slot c.places q.class i) start v) C (reserving-cost (slot c.places q.class i) start v))
  trees-cost None s = weaker s.looks s.tries (trees_of c) 0 (near (trees_of c) - 1 + trees_of c) 1 (search_and_steal c q (start_tree c q None) s) (omega arith) (omega arith) (stealing-cost (start_tree c q None) s)

  last-cost : (name : Option ℕ) (s : State) → Cost s.looks s.tries 0 2 (last_routes c q name s)
  unfolding last_routes
  last-cost name s = else-cost s.looks s.tries 0 1 0 1 _ (demote_local c q name) (steal_local-one name s) (demote_local-one name)

  unnamed-cost : (s : State) → Cost s.looks s.tries (near (trees_of c) - 1 + trees_of c + 0) 3 (get_any c q s)
  unfolding get_any
  unnamed-cost s = else-cost s.looks s.tries (near (trees_of c) - 1 + trees_of c) 1 0 2 _ (last_routes c q None) (trees-cost q.local s) (last-cost None)

  named-cost : (f : ℕ) (s : State) → Cost s.looks s.tries 0 4 (get_at c q f s)
  unfolding get_at
  named-cost f s =
      else-cost s.looks s.tries 0 1 0 3 _ _ (own_local-one (Some f) q.local s) (λ v.
      else-cost v.looks v.tries 0 1 0 2 _ (last_routes c q (Some f)) (steal_global-one (Some f) (f / tree_frames c.tree_order) v) (last-cost (Some f)))

-- ---- the counts that a get reports

-- what a get tells
abbrev Tells : ℕ → ℕ → Told → Type 0
Tells d a r = (r.looks ≤ d) × (r.tries ≤ r.looks + a)

close-tells : (d a : ℕ) (w : Way) → Cost 0 0 d a w → Tells d a (close w)
unfolding close
close-tells d a (out (Got.Done f k) s) C = (omega (arith, C.0), omega (arith, C.1))
close-tells d a (out Got.Missed s) C = (omega (arith, C.0), omega (arith, C.1))
close-tells d a (out (Got.MissedAt t) s) C = (omega (arith, C.0), omega (arith, C.1))
close-tells d a (out Got.Stuck s) C = (omega (arith, C.0), omega (arith, C.1))

get_tells : (d a : ℕ) (c : Config) (q : Request) (name : Option ℕ) (t l b : List ℕ) → Cost 0 0 d a (routes c q name (fresh t l b)) → Tells d a (get c q name t l b)
unfolding get
get_tells d a c q name t l b C =
    standing-ind (Tells d a) c (fresh t l b) _
    (λ _. unless-ind (Tells d a) (refusal c q (frame_of name)) (fresh t l b) _ (λ n e. (omega arith, omega arith)) (λ _. close-tells d a (routes c q name (fresh t l b)) C))
    (λ _. (omega arith, omega arith))

-- near is at least 4
near-some : (n : ℕ) → 1 ≤ near n
unfolding near
near-some n = go (ltb (n / 16) 4) refl
  where
    go : (b : Bool) → ltb (n / 16) 4 ≡ b → 1 ≤ pick b 4 (n / 16)
    go true e = omega arith
    go false e = (let h : 4 ≤ n / 16 = ltb-false _ _ e in omega arith)

-- no name: looks at most n + near − 1, and tries at most looks + 3
pub get-unnamed-counts : (c : Config) (q : Request) (t l b : List ℕ)
    → ((get c q None t l b).looks ≤ trees_of c + near (trees_of c) - 1) × ((get c q None t l b).tries ≤ (get c q None t l b).looks + 3)
unfolding routes
get-unnamed-counts c q t l b =
    let T = get_tells (near (trees_of c) - 1 + trees_of c + 0) 3 c q None t l b (unnamed-cost c q (fresh t l b)) in
    (omega (arith, T.0, near-some (trees_of c)), T.1)

-- named: looks 0, tries at most 4
pub get-named-counts : (c : Config) (q : Request) (f : ℕ) (t l b : List ℕ) → ((get c q (Some f) t l b).looks ≡ 0) × ((get c q (Some f) t l b).tries ≤ 4)
unfolding routes
get-named-counts c q f t l b =
    let T = get_tells 0 4 c q (Some f) t l b (named-cost c q f (fresh t l b)) in
    (omega (arith, T.0), omega (arith, T.0, T.1))

-- nothing counted by a refusal before the routes
abbrev Zeros : Told → Type 0
Zeros r = 1 ≤ r.number → r.number ≤ 6 → (r.looks ≡ 0) × (r.tries ≡ 0)

-- the routes end with another number
closed : (w : Way) → Zeros (close w)
unfolding close
closed (out (Got.Done f k) s) p h = absurd (omega arith)
closed (out Got.Missed s) p h = absurd (omega arith)
closed (out (Got.MissedAt t) s) p h = absurd (omega arith)
closed (out Got.Stuck s) p h = absurd (omega arith)

-- a get refused before the routes (Broken, Order, Bounds, Misaligned, Class, Local) reports 0 and 0
pub get-refused-counts : (c : Config) (q : Request) (name : Option ℕ) (t l b : List ℕ) → 1 ≤ (get c q name t l b).number → (get c q name t l b).number ≤ 6
    → ((get c q name t l b).looks ≡ 0) × ((get c q name t l b).tries ≡ 0)
unfolding get
get-refused-counts c q name t l b =
    standing-ind Zeros c (fresh t l b) _
    (λ _. unless-ind Zeros (refusal c q (frame_of name)) (fresh t l b) _ (λ n e _ _. (refl, refl)) (λ _. closed (routes c q name (fresh t l b))))
    (λ _ _ _. (refl, refl))
