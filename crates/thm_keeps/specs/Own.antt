-- From a local, with its top up: the rules stand, and a just topped-up local takes its frames. Assumes nothing.
use Rattle.std.specs.Prelude.{◌≡◌, Bool, false, leb, ltb, get_or, Option, Some, None}
use Rattle.std.proofs.Math.Path.{refl, sym, ap, subst}
use Rattle.std.proofs.Common.{◌∙◌, arith, eq-eqb}
use Rattle.std.proofs.Math.Bool.{true}
use mathlib.Core.List.{List}
use Prim.Native.Nat.{ℕ, zero, suc, ◌-◌, ◌*◌, ◌/◌, ◌^◌, ◌<◌}
use Rattle.std.proofs.Math.ListN.{set}
use Rattle.std.proofs.Math.Pow.{pow_pos}
use Rattle.rules.specs.Base.{ifte, Out, out}
use Rattle.rules.specs.Words.{Config, tree_rows, trees_of, slot, tree_word, local_word, entry, entry_at, local_at}
use Rattle.rules.specs.Entries.{entry_sync}
use Rattle.rules.specs.Locals.{reservation, in_tree, local_take, local_put}
use Rattle.rules.specs.Lower.{mark}
use Rattle.rules.specs.declared.Local.{Local}
use Rattle.rules.specs.declared.Request.{Request}
use Rattle.rules_calls.specs.State.{State, Way, size, done, missed, missed_at, on_held, on_put, on_sync, with_trees, with_locals, with_try, put_entry, set_row}
use Rattle.rules_calls.specs.Standing.{tree_on}
use Rattle.rules_calls.specs.FromLocals.{take_by, top_by, top_up, get_local, own_local}
use Rattle.law_rules.specs.Sizes.{Size, frames-le, row_of, tree-of, row_small}
use Rattle.law_rules.specs.RoundTrips.{row_lt, present-lt}
use Rattle.law_rules.specs.Accepted.{accepted-says}
use Rattle.thm_hand.specs.Hand.{here, nothing, Hand, Kept}
use Rattle.law_calls.specs.Steps.{ifte-ind, found-ind, held-ind, put-ind, sync-ind}
use Rattle.thm_hand.specs.Here.{here-same}
use Rattle.thm_hand.specs.Entries.{hand-put, hand-sync}
use Rattle.thm_hand.specs.Locals.{load_same, local-room, hand-take, hand-fill, hand-row}
use Rattle.thm_keeps.specs.Fine.{Fine, Asks, in-sought, found_inside, found_below, found-hold, found-granted}

-- the local in slot j is present, with this row and free
pub record Holds (ls : List ℕ) (j r f : ℕ) : Type 0 where
  pub present : (local_at ls j).present ≡ true
  pub row : (local_at ls j).row ≡ r
  pub free : (local_at ls j).free ≡ f

-- what a top up does where the topped-up local will not take the frames: any other way on
unfoldable pub top_with : (State → Way) → (State → Way) → Config → Request → ℕ → ℕ → ℕ → State → Way
top_with falls again c q j row free s =
    ifte (ltb (size q) free) (λ _. missed_at (row / tree_rows c.tree_order) s) (λ _.
    on_sync (entry_sync s.trees (row / tree_rows c.tree_order) (size q - free)) s
    (λ x s1. on_put (local_put c.tree_order s1.locals j (row / tree_rows c.tree_order) x) s1
    again
    falls)
    (missed_at (row / tree_rows c.tree_order)))

-- a present local of tree t takes the frames
put_same : (z j t x : ℕ) (v : State) (again a b : State → Way) → (local_at v.locals j).present ≡ true → (local_at v.locals j).row / tree_rows z ≡ t
    → on_put (local_put z v.locals j t x) v again a ≡ on_put (local_put z v.locals j t x) v again b
unfolding local_put on_put
put_same z j t x v again a b p e = rw (p, eq-eqb _ _ e)

-- a sync with equal ways on
sync-same : (o : Out (Option ℕ) (List ℕ)) (s : State) (f g : ℕ → State → Way) (m : State → Way) → ((x : ℕ) (ts : List ℕ) → f x (with_trees s ts) ≡ g x (with_trees s ts)) → on_sync o s f m ≡ on_sync o s g m
unfolding on_sync
sync-same (out (Some n) t) s f g m e = e n t
sync-same (out None t) s f g m e = refl

-- it makes no difference: a just topped-up local takes the frames
pub never-falls : (falls again : State → Way) (c : Config) (q : Request) (j row free : ℕ) (s : State) → Holds s.locals j row free
    → top_by again c q j row free s ≡ top_with falls again c q j row free s
unfolding top_by top_with with_trees
never-falls falls again c q j row free s h =
    ap (λ (w : Way). ifte (ltb (size q) free) (λ _. missed_at (row / tree_rows c.tree_order) s) (λ _. w))
    (sync-same (entry_sync s.trees (row / tree_rows c.tree_order) (size q - free)) s _ _ _
    (λ x ts. put_same c.tree_order j (row / tree_rows c.tree_order) x (with_trees s ts) again _ _ h.present (ap (λ (y : ℕ). y / tree_rows c.tree_order) h.row)))

-- from a local, with equal ways on where it holds too few
take_same : (up on : ℕ → ℕ → State → Way) (c : Config) (q : Request) (name : Option ℕ) (j : ℕ) (s : State)
    → ((row free : ℕ) → Holds s.locals j row free → up row free s ≡ on row free s) → take_by up c q name j s ≡ take_by on c q name j s
unfolding take_by on_held local_take with_locals
take_same up on c q name j s e =
    go (local_at s.locals j).present refl (in_tree c.tree_order (local_at s.locals j).row name) refl (leb (size q) (local_at s.locals j).free) refl
  where
    go : (a : Bool) → (local_at s.locals j).present ≡ a → (b : Bool) → in_tree c.tree_order (local_at s.locals j).row name ≡ b → (d : Bool) → leb (size q) (local_at s.locals j).free ≡ d
        → take_by up c q name j s ≡ take_by on c q name j s
    go true p true i true r = rw (p, i, r)
    go true p true i false r = rw (p, i, r) (e _ _ (record { present = p; row = refl; free = refl }))
    go true p false i d r = rw (p, i) (e _ _ (record { present = p; row = refl; free = refl }))
    go false p b i d r = rw p

-- from a local with one sync: whatever is done where the topped-up local will not take the frames, the answer and the words are the same
pub topped-up : (falls : State → Way) (c : Config) (q : Request) (name : Option ℕ) (j : ℕ) (s : State)
    → get_local 1 c q name j s ≡ take_by (top_with falls (get_local 0 c q name j) c q j) c q name j s
unfolding get_local top_up
topped-up falls c q name j s =
    take_same (top_up 1 c q name j) (top_with falls (take_by (top_up 0 c q name j) c q name j) c q j) c q name j s
    (λ row free h. never-falls falls (take_by (top_up 0 c q name j) c q name j) c q j row free s h)

module _ (c : Config) (sz : Size c.tree_order) (q : Request) (name : Option ℕ) (A : Asks c q name) (j : ℕ) where
  -- from a local; `up` leaves the rules standing
  pub take_by-fine : (up : ℕ → ℕ → State → Way)
      → ((row free : ℕ) (s : State) → Holds s.locals j row free → Kept c s.trees s.locals s.bits → Fine c q.order name s.bits (up row free s))
      → (s : State) → Kept c s.trees s.locals s.bits → Fine c q.order name s.bits (take_by up c q name j s)
  unfolding take_by done missed missed_at put_entry set_row with_trees with_locals with_try
  take_by-fine up g s K =
      held-ind (Fine c q.order name s.bits) s c.tree_order j name (size q) _ up _
      (λ p it le.
      let l : Local = local_at s.locals j in
      let t : ℕ = l.row / tree_rows c.tree_order in
      let ls : List ℕ = set s.locals j (local_word (reservation l.row (l.free - size q))) in
      let s1 : State = with_locals s ls in
      let at = in-sought c.tree_order l.row name it in
      let few : l.free - size q < 2 ^ 19 = omega (arith, local-room c sz s.trees s.locals s.bits nothing nothing K j p, frames-le c.tree_order sz) in
      let e : local_at ls j ≡ reservation l.row (l.free - size q) = load_same s.locals j l.row (l.free - size q) (present-lt s.locals j p) (row_lt (get_or s.locals j 0)) few in
      let K1 : Hand c s.trees ls s.bits (here t (size q)) nothing = hand-take c sz s.trees s.locals s.bits nothing nothing K j p (size q) (here t (size q)) le (λ i. omega arith) in
      found-ind (Fine c q.order name s.bits) s1 c.tree_order l.row q.order name _ _ sz.least sz.most A.order
      (λ b N.
      let f : ℕ = b * 2 ^ q.order in
      let within = found_inside c sz q name A s1 (here t (size q)) nothing K1 l.row t at b N in
      let below = found_below c sz q name A s1 (here t (size q)) nothing K1 l.row t at b N in
      let K2 = found-hold c sz q name A s1 (here t (size q)) nothing K1 l.row t at b N nothing (λ i. omega arith) in
      let same : f / 64 / tree_rows c.tree_order ≡ tree_on c.tree_order (local_at ls j) = row_of c.tree_order sz f ∙ tree-of c.tree_order sz t f within.low (omega (arith, within.high, pow_pos q.order)) ∙ sym (ap (λ (x : Local). x.row / tree_rows c.tree_order) e) in (
        hand-row c sz s.trees ls (mark true s.bits q.order b) nothing nothing K2 j (ap (λ (x : Local). x.present) e) (f / 64)
            (row_small c.tree_order sz f c.frames (omega (arith, below)) (accepted-says c K.config).most) same,
        found-granted c sz q name A s1 (here t (size q)) nothing K1 l.row t at b N q.class A.class,
      ))
      (λ _. (hand-put c sz s.trees ls s.bits (here t (size q)) nothing K1 t (K.inside j p) (size q) nothing (λ i. omega arith), refl)))
      (λ p _. g (local_at s.locals j).row (local_at s.locals j).free s (record { present = p; row = refl; free = refl }) K)
      (λ _. (K, refl))

  top_up-fine : (k row free : ℕ) (s : State) → Holds s.locals j row free → Kept c s.trees s.locals s.bits → Fine c q.order name s.bits (top_up k c q name j row free s)
  unfolding top_up top_by missed_at put_entry with_trees with_locals
  top_up-fine zero row free s h K = (K, refl)
  top_up-fine (suc k) row free s h K =
      let t : ℕ = row / tree_rows c.tree_order in
      let on : tree_on c.tree_order (local_at s.locals j) ≡ t = ap (λ (y : ℕ). y / tree_rows c.tree_order) h.row in
      let lt : t < trees_of c = subst (λ (x : ℕ). x < trees_of c) on (K.inside j h.present) in
      ifte-ind (Fine c q.order name s.bits) (ltb (size q) free) _ _ (λ _. (K, refl)) (λ _.
      sync-ind (Fine c q.order name s.bits) s t (size q - free) _ _
      (λ r more.
      let x : ℕ = (entry_at s.trees t).free in
      let ts : List ℕ = set s.trees t (tree_word (entry 0 true (entry_at s.trees t).class)) in
      let K1 : Hand c ts s.locals s.bits (here t x) nothing = hand-sync c sz s.trees s.locals s.bits nothing nothing K t lt (here t x) r (λ i. omega arith) in
      put-ind (Fine c q.order name s.bits) (with_trees s ts) c.tree_order j t x _ _
      (λ p same. take_by-fine (top_up k c q name j) (top_up-fine k) _
      (hand-fill c sz ts s.locals s.bits (here t x) nothing K1 j p x nothing (omega (arith, here-same t x (tree_on c.tree_order (local_at s.locals j)) on))
      (λ i. (let d : here (tree_on c.tree_order (local_at s.locals j)) x i ≡ here t x i = ap (λ (y : ℕ). here y x i) on in omega arith))))
      (λ no'. absurd (no' h.present on)))
      (λ _. (K, refl)))

  pub get_local-fine : (k : ℕ) (s : State) → Kept c s.trees s.locals s.bits → Fine c q.order name s.bits (get_local k c q name j s)
  unfolding get_local
  get_local-fine k s K = take_by-fine (top_up k c q name j) (top_up-fine k) s K

module _ (c : Config) (sz : Size c.tree_order) (q : Request) (name : Option ℕ) (A : Asks c q name) where
  pub own_local-fine : (l : Option ℕ) (s : State) → Kept c s.trees s.locals s.bits → Fine c q.order name s.bits (own_local c q name l s)
  unfolding own_local missed
  own_local-fine (Some i) s K = get_local-fine c sz q name A (slot c.places q.class i) 1 s K
  own_local-fine None s K = (K, refl)
