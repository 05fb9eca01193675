-- One law for each step that routes are made of: whatever holds of every way on, holds of the step. Assumes nothing.
use Rattle.std.specs.Prelude.{◌≡◌, Bool, ◌⊎◌, List, ℕ, ◌+◌, ◌-◌, ◌*◌, ◌/◌, ◌^◌, ◌<◌, ◌≤◌, set, Option, Some, None}
use Rattle.std.proofs.Math.Path.{refl}
use Rattle.std.proofs.Math.Bool.{true, false}
use Rattle.std.proofs.Common.{inl, inr, arith}
use Rattle.std.proofs.Math.Dec.{eqb, leb, ltb}
use borrow.Author.Tests.{eqb-true, eqb-false, leb-true, leb-false, ltb-true, ltb-false}
use Rattle.rules.specs.Base.{pick, ifte, Out, out}
use Rattle.rules.specs.Words.{Config, tree_rows, tree_word, local_word, entry, entry_at, local_at}
use Rattle.rules.specs.Policy.{policy, kind_at, Good}
use Rattle.rules.specs.Entries.{put_of, steal_kind, steal_of, reserve_kind, reserve_of, unreserve_kind, unreserve_of, sync_of, keep_took, entry_steal, entry_unreserve, keep_taken, entry_reserve, keep_sync, entry_sync}
use Rattle.rules.specs.Locals.{reservation, in_tree, local_take, local_put, local_swap, local_clear}
use Rattle.rules.specs.Lower.{mark, lower_find, lower_get}
use Rattle.rules.specs.declared.Tree.{Tree}
use Rattle.rules.specs.declared.Local.{Local}
use Rattle.rules.specs.declared.Kind.{Kind}
use Rattle.rules.specs.declared.Kind.TheVariants.{Invalid, Steal, Demote, Match}
use Rattle.rules.specs.declared.Taken.TheVariants as Taken
use Rattle.rules.specs.declared.Request.{Request}
use Rattle.rules_calls.specs.declared.Got.{Got}
use Rattle.rules_calls.specs.State.{State, Way, size, done, missed, with_trees, with_locals, with_try, on_took, on_taken, on_sync, on_held, on_put, on_swap, on_found, or_else, put_entry, ask_lower, unreserve, unreserve_local}
use Rattle.rules_calls.specs.Get.{or_from}
use Rattle.law_rules.specs.Lower.{Named, get-ind}
use Rattle.law_rules.specs.All.{true-false}
use Rattle.law_rules.specs.Kinds.{invalid-kind, steal-kind, demote-kind, match-kind}

-- one of two ways on
pub ifte-ind : {A : Type 0} (Q : A → Type 0) (b : Bool) (x y : Unit {0} → A) → (b ≡ true → Q (x tt)) → (b ≡ false → Q (y tt)) → Q (ifte b x y)
unfolding ifte
ifte-ind Q true x y h k = h refl
ifte-ind Q false x y h k = k refl

-- one of two values
pub pick_ind : {A : Type 0} (Q : A → Type 0) (b : Bool) (x y : A) → (b ≡ true → Q x) → (b ≡ false → Q y) → Q (pick b x y)
pick_ind Q true x y h k = h refl
pick_ind Q false x y h k = k refl

module _ {A : Type 0} (Q : A → Type 0) (s : State) where
  -- a steal from the entry of tree t by class k: x is the class that the entry has now
  pub steal-ind : (c : Config) (t k n : ℕ) (y : Tree → State → A) (m : State → A)
      → ((x : ℕ) → (entry_at s.trees t).reserved ≡ false → n ≤ (entry_at s.trees t).free → 0 < kind_at c k (entry_at s.trees t).class
      → (x ≡ k) ⊎ (x ≡ (entry_at s.trees t).class)
      → Q (y (entry ((entry_at s.trees t).free - n) false x) (with_trees s (set s.trees t (tree_word (entry ((entry_at s.trees t).free - n) false x))))))
      → (((entry_at s.trees t).reserved ≡ false → n ≤ (entry_at s.trees t).free → 0 < kind_at c k (entry_at s.trees t).class → ⊥) → Q (m s))
      → Q (on_took (entry_steal c s.trees t k n) s y m)
  unfolding entry_steal steal_of steal_kind keep_took on_took with_trees
  steal-ind c t k n y m hit miss =
      go (entry_at s.trees t).reserved refl (ltb (entry_at s.trees t).free n) refl (policy c k (entry_at s.trees t).class n) refl
    where
      go : (a : Bool) → (entry_at s.trees t).reserved ≡ a → (b : Bool) → ltb (entry_at s.trees t).free n ≡ b → (d : Kind) → policy c k (entry_at s.trees t).class n ≡ d
          → Q (on_took (keep_took s.trees t (pick a None (pick b None (steal_kind (entry_at s.trees t) k n d)))) s y m)
      go true p b e d r = miss (λ u v w. true-false p u)
      go false p true e d r = miss (λ u v w. (let l : (entry_at s.trees t).free < n = ltb-true _ _ e in omega arith))
      go false p false e Invalid r = miss (λ u v w. omega (arith, w, invalid-kind c k (entry_at s.trees t).class n r))
      go false p false e Steal r = hit (entry_at s.trees t).class p (ltb-false _ _ e) (omega (arith, steal-kind c k (entry_at s.trees t).class n r)) (inr refl)
      go false p false e Demote r = hit k p (ltb-false _ _ e) (omega (arith, demote-kind c k (entry_at s.trees t).class n r)) (inl refl)
      go false p false e (Match v) r = hit k p (ltb-false _ _ e) (omega (arith, match-kind c k (entry_at s.trees t).class n v r)) (inl refl)

  -- a reserve or steal of tree t by class k
  pub reserve-ind : (c : Config) (t k n : ℕ) (y : Tree → State → A) (w : ℕ → State → A) (m : State → A)
      → ((entry_at s.trees t).reserved ≡ false → n ≤ (entry_at s.trees t).free → kind_at c k (entry_at s.trees t).class ≡ 1
      → Q (y (entry ((entry_at s.trees t).free - n) false (entry_at s.trees t).class) (with_trees s (set s.trees t (tree_word (entry ((entry_at s.trees t).free - n) false (entry_at s.trees t).class))))))
      → ((entry_at s.trees t).reserved ≡ false → n ≤ (entry_at s.trees t).free → Good c k (entry_at s.trees t).class
      → Q (w (entry_at s.trees t).free (with_trees s (set s.trees t (tree_word (entry 0 true k))))))
      → (((entry_at s.trees t).reserved ≡ false → n ≤ (entry_at s.trees t).free → 0 < kind_at c k (entry_at s.trees t).class → ⊥) → Q (m s))
      → Q (on_taken (entry_reserve c s.trees t k n) s y w m)
  unfolding entry_reserve reserve_of reserve_kind keep_taken on_taken with_trees
  reserve-ind c t k n y w m part whole miss =
      go (entry_at s.trees t).reserved refl (ltb (entry_at s.trees t).free n) refl (policy c k (entry_at s.trees t).class n) refl
    where
      go : (a : Bool) → (entry_at s.trees t).reserved ≡ a → (b : Bool) → ltb (entry_at s.trees t).free n ≡ b → (d : Kind) → policy c k (entry_at s.trees t).class n ≡ d
          → Q (on_taken (keep_taken s.trees t (pick a None (pick b None (reserve_kind (entry_at s.trees t) k n d)))) s y w m)
      go true p b e d r = miss (λ u v x. true-false p u)
      go false p true e d r = miss (λ u v x. (let l : (entry_at s.trees t).free < n = ltb-true _ _ e in omega arith))
      go false p false e Invalid r = miss (λ u v x. omega (arith, x, invalid-kind c k (entry_at s.trees t).class n r))
      go false p false e Steal r = part p (ltb-false _ _ e) (steal-kind c k (entry_at s.trees t).class n r)
      go false p false e Demote r = whole p (ltb-false _ _ e) (omega (arith, demote-kind c k (entry_at s.trees t).class n r))
      go false p false e (Match v) r = whole p (ltb-false _ _ e) (omega (arith, match-kind c k (entry_at s.trees t).class n v r))

  -- the return of a reservation by class k with n free: x is the class before the entry put
  pub unreserve-ind : (c : Config) (t k n : ℕ) (y m : State → A)
      → ((x : ℕ) → (entry_at s.trees t).reserved ≡ true → Good c k (entry_at s.trees t).class → (x ≡ k) ⊎ (x ≡ (entry_at s.trees t).class)
      → Q (y (with_trees s (set s.trees t (tree_word (put_of c (entry (entry_at s.trees t).free false x) n))))))
      → (((entry_at s.trees t).reserved ≡ true → Good c k (entry_at s.trees t).class → ⊥) → Q (m s))
      → Q (unreserve c t k n s y m)
  unfolding unreserve entry_unreserve unreserve_of unreserve_kind keep_took on_took with_trees
  unreserve-ind c t k n y m hit miss = go (entry_at s.trees t).reserved refl (policy c k (entry_at s.trees t).class n) refl
    where
      go : (a : Bool) → (entry_at s.trees t).reserved ≡ a → (d : Kind) → policy c k (entry_at s.trees t).class n ≡ d
          → Q (on_took (keep_took s.trees t (pick a (unreserve_kind c (entry_at s.trees t) k n d) None)) s (λ e. y) m)
      go false p d r = miss (λ q g. true-false q p)
      go true p Invalid r = miss (λ q g. omega (arith, g, invalid-kind c k (entry_at s.trees t).class n r))
      go true p Steal r = miss (λ q g. omega (arith, g, steal-kind c k (entry_at s.trees t).class n r))
      go true p Demote r = hit k p (omega (arith, demote-kind c k (entry_at s.trees t).class n r)) (inl refl)
      go true p (Match v) r = hit (entry_at s.trees t).class p (omega (arith, match-kind c k (entry_at s.trees t).class n v r)) (inr refl)

  -- the same of a local, if it is present
  pub unreserve_local-ind : (c : Config) (l : Local) (k : ℕ) (y m : State → A)
      → (l.present ≡ true → Q (unreserve c (l.row / tree_rows c.tree_order) k l.free s y m)) → (l.present ≡ false → Q (y s)) → Q (unreserve_local c l k s y m)
  unfolding unreserve_local
  unreserve_local-ind c l k y m there absent = ifte-ind Q l.present _ _ there absent

  -- a sync of the entry of tree t
  pub sync-ind : (t n : ℕ) (y : ℕ → State → A) (m : State → A)
      → ((entry_at s.trees t).reserved ≡ true → n < (entry_at s.trees t).free
      → Q (y (entry_at s.trees t).free (with_trees s (set s.trees t (tree_word (entry 0 true (entry_at s.trees t).class))))))
      → (((entry_at s.trees t).reserved ≡ true → n < (entry_at s.trees t).free → ⊥) → Q (m s)) → Q (on_sync (entry_sync s.trees t n) s y m)
  unfolding entry_sync sync_of keep_sync on_sync with_trees
  sync-ind t n y m hit miss = go (entry_at s.trees t).reserved refl (ltb n (entry_at s.trees t).free) refl
    where
      go : (a : Bool) → (entry_at s.trees t).reserved ≡ a → (b : Bool) → ltb n (entry_at s.trees t).free ≡ b
          → Q (on_sync (keep_sync s.trees t (entry_at s.trees t) (pick a (pick b (Some (entry 0 true (entry_at s.trees t).class)) None) None)) s y m)
      go false p b e = miss (λ u v. true-false u p)
      go true p false e = miss (λ u v. (let l : (entry_at s.trees t).free ≤ n = ltb-false _ _ e in omega arith))
      go true p true e = hit p (ltb-true _ _ e)

  -- a local's payment
  pub held-ind : (z j : ℕ) (name : Option ℕ) (n : ℕ) (y : ℕ → State → A) (f : ℕ → ℕ → State → A) (m : State → A)
      → ((local_at s.locals j).present ≡ true → in_tree z (local_at s.locals j).row name ≡ true → n ≤ (local_at s.locals j).free
      → Q (y (local_at s.locals j).row (with_locals s (set s.locals j (local_word (reservation (local_at s.locals j).row ((local_at s.locals j).free - n)))))))
      → ((local_at s.locals j).present ≡ true → (in_tree z (local_at s.locals j).row name ≡ true → n ≤ (local_at s.locals j).free → ⊥) → Q (f (local_at s.locals j).row (local_at s.locals j).free s))
      → ((local_at s.locals j).present ≡ false → Q (m s)) → Q (on_held (local_take z s.locals j name n) s y f m)
  unfolding local_take on_held with_locals
  held-ind z j name n y f m paid few absent =
      go (local_at s.locals j).present refl (in_tree z (local_at s.locals j).row name) refl (leb n (local_at s.locals j).free) refl
    where
      go : (a : Bool) → (local_at s.locals j).present ≡ a → (b : Bool) → in_tree z (local_at s.locals j).row name ≡ b → (c : Bool) → leb n (local_at s.locals j).free ≡ c
          → Q (on_held (local_take z s.locals j name n) s y f m)
      go true p true q true r = rw (p, q, r) (paid p q (leb-true _ _ r))
      go true p true q false r = rw (p, q, r) (few p (λ u v. (let l : (local_at s.locals j).free < n = leb-false _ _ r in omega arith)))
      go true p false q c r = rw (p, q) (few p (λ u v. true-false u q))
      go false p b q c r = rw p (absent p)

  -- frames put to a local; a refusal says that it is absent or on another tree
  pub put-ind : (z j t n : ℕ) (y m : State → A)
      → ((local_at s.locals j).present ≡ true → (local_at s.locals j).row / tree_rows z ≡ t
      → Q (y (with_locals s (set s.locals j (local_word (reservation (local_at s.locals j).row ((local_at s.locals j).free + n)))))))
      → (((local_at s.locals j).present ≡ true → (local_at s.locals j).row / tree_rows z ≡ t → ⊥) → Q (m s)) → Q (on_put (local_put z s.locals j t n) s y m)
  unfolding local_put on_put with_locals
  put-ind z j t n y m hit miss = go (local_at s.locals j).present refl (eqb ((local_at s.locals j).row / tree_rows z) t) refl
    where
      go : (a : Bool) → (local_at s.locals j).present ≡ a → (b : Bool) → eqb ((local_at s.locals j).row / tree_rows z) t ≡ b → Q (on_put (local_put z s.locals j t n) s y m)
      go true p true q = rw (p, q) (hit p (eqb-true _ _ q))
      go true p false q = rw (p, q) (miss (λ _. eqb-false _ _ q))
      go false p b q = rw p (miss (λ x _. true-false x p))

  -- a local stored, the one that stood there handed on
  pub swap-ind : (j : ℕ) (l : Local) (y : Local → State → A) → Q (y (local_at s.locals j) (with_locals s (set s.locals j (local_word l)))) → Q (on_swap (local_swap s.locals j l) s y)
  unfolding local_swap on_swap
  swap-ind j l y h = h

  -- a local made absent, the one that stood there handed on
  pub clear-ind : (j : ℕ) (y : Local → State → A) → Q (y (local_at s.locals j) (with_locals s (set s.locals j 0))) → Q (on_swap (local_clear s.locals j) s y)
  unfolding local_clear on_swap
  clear-ind j y h = h

  -- a lower call: the block j was free and is now held, or nothing
  pub found-ind : (z row o : ℕ) (name : Option ℕ) (y : ℕ → State → A) (m : State → A) → 6 ≤ z → z ≤ 18 → o ≤ z
      → ((j : ℕ) → Named z s.bits row o name j → Q (y (j * 2 ^ o) (with_try s (mark true s.bits o j))))
      → (lower_find z s.bits row o name ≡ None → Q (m (with_try s s.bits))) → Q (on_found (lower_get z s.bits row o name) s y m)
  unfolding on_found
  found-ind z row o name y m least most small hit miss =
      get-ind z s.bits o least most small (λ (x : Out (Option ℕ) (List ℕ)). Q (on_found x s y m)) row name hit miss

-- the lower asked for frames that were taken of tree t
pub ask_lower-ind : (Q : Way → Type 0) (c : Config) (q : Request) (name : Option ℕ) (t row k : ℕ) (s : State) → 6 ≤ c.tree_order → c.tree_order ≤ 18 → q.order ≤ c.tree_order
    → ((j : ℕ) → Named c.tree_order s.bits row q.order name j → Q (out (Got.Done (j * 2 ^ q.order) k) (with_try s (mark true s.bits q.order j))))
    → (lower_find c.tree_order s.bits row q.order name ≡ None → Q (out Got.Missed (put_entry c t (size q) (with_try s s.bits))))
    → Q (ask_lower c q name t row k s)
unfolding ask_lower done missed
ask_lower-ind Q c q name t row k s least most small hit miss = found-ind Q s c.tree_order row q.order name _ _ least most small hit miss

-- the next route, for a claim R on the first and Q on both
module _ (R Q : Way → Type 0) (w : Way) (holds : R w)
    (done : (f k : ℕ) (s : State) → R (out (Got.Done f k) s) → Q (out (Got.Done f k) s))
    (stuck : (s : State) → R (out Got.Stuck s) → Q (out Got.Stuck s)) where
  pub else-ind : (next : State → Way) → ((s : State) → R (out Got.Missed s) → Q (next s)) → ((t : ℕ) (s : State) → R (out (Got.MissedAt t) s) → Q (next s)) → Q (or_else w next)
  unfolding or_else
  else-ind next missed at = go w holds
    where
      go : (v : Way) → R v → Q (or_else v next)
      go (out (Got.Done f k) s) h = done f k s h
      go (out Got.Missed s) h = missed s h
      go (out (Got.MissedAt t) s) h = at t s h
      go (out Got.Stuck s) h = stuck s h

  pub from-ind : (start : ℕ) (next : ℕ → State → Way) → ((s : State) → R (out Got.Missed s) → Q (next start s)) → ((t : ℕ) (s : State) → R (out (Got.MissedAt t) s) → Q (next t s))
      → Q (or_from start w next)
  unfolding or_from
  from-ind start next missed at = go w holds
    where
      go : (v : Way) → R v → Q (or_from start v next)
      go (out (Got.Done f k) s) h = done f k s h
      go (out Got.Missed s) h = missed s h
      go (out (Got.MissedAt t) s) h = at t s h
      go (out Got.Stuck s) h = stuck s h
