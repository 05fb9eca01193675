-- What is shown of each route: the rules stand, it is not stuck, a granted block was wholly free. Assumes nothing.
use Rattle.std.specs.Prelude.{◌≡◌, refl, true, List, ℕ, ◌+◌, ◌*◌, ◌/◌, ◌%◌, ◌^◌, ◌<◌, ◌≤◌, Option, Some, None}
use Rattle.std.proofs.Common.{sym, ap, ◌∙◌, subst, ⊎_elim, mul_comm, arith, eqb-true}
use Rattle.std.proofs.Math.Nat.{div-add-mod}
use Rattle.rules.specs.Base.{out}
use Rattle.rules.specs.Words.{Config, tree_rows, trees_of, entry_at}
use Rattle.rules.specs.Policy.{Configured, Good}
use Rattle.rules.specs.Locals.{in_tree}
use Rattle.rules.specs.Lower.{held_in, mark}
use Rattle.rules.specs.declared.Request.{Request}
use Rattle.rules_calls.specs.declared.Got.{Got}
use Rattle.rules_calls.specs.State.{State, Way, size, or_else, with_trees, with_try, put_entry, ask_lower, unreserve}
use Rattle.law_rules.specs.Block.{Block}
use Rattle.law_rules.specs.Power.{Inside}
use Rattle.law_rules.specs.Lower.{sought_tree, IsNamed, Named}
use Rattle.law_rules.specs.Below.{free-below}
use Rattle.law_rules.specs.Sizes.{Size}
use Rattle.thm_hand.specs.Hand.{here, nothing, Hand, Kept}
use Rattle.law_calls.specs.Steps.{else-ind, ask_lower-ind, unreserve-ind}
use Rattle.law_calls.specs.Checked.{LocalIn}
use Rattle.thm_hand.specs.Moves.{hand-hold}
use Rattle.thm_hand.specs.Here.{here-same}
use Rattle.thm_hand.specs.Entries.{hand-put, hand-back, hand-reserved}

-- the frame that a name asks for
abbrev pub Asked : Option ℕ → ℕ → Type 0
Asked None f = Unit {0}
Asked (Some g) f = f ≡ g

-- the block at frame f of order o is granted to class k: b are the bits before, d after
pub record GrantedBlock (c : Config) (o : ℕ) (name : Option ℕ) (b : List ℕ) (f k : ℕ) (d : List ℕ) : Type 0 where
  -- the number of the block: it is aligned
  pub block : ℕ
  pub frame : f ≡ block * 2 ^ o
  -- it lies below F, and in the bitmap
  pub below : f + 2 ^ o ≤ c.frames
  pub inside : Block b o block
  -- it was wholly free
  pub free : held_in b o block ≡ 0
  -- it is the named one
  pub named : Asked name f
  -- it is what the bitmap holds more
  pub bits : d ≡ mark true b o block
  -- the class answered is configured
  pub class : Configured c k

-- the bits after a route: by a refusal none changes, and no route is stuck
abbrev pub Moved : Config → ℕ → Option ℕ → List ℕ → Got → List ℕ → Type 0
Moved c o name b (Got.Done f k) d = GrantedBlock c o name b f k d
Moved c o name b Got.Missed d = d ≡ b
Moved c o name b (Got.MissedAt t) d = d ≡ b
Moved c o name b Got.Stuck d = ⊥

-- a route that leaves the rules standing, from the bits b
abbrev pub Fine : Config → ℕ → Option ℕ → List ℕ → Way → Type 0
Fine c o name b (out g s) = Kept c s.trees s.locals s.bits × Moved c o name b g s.bits

-- the named frame is aligned, and its block lies below F
abbrev pub FrameIn : Config → ℕ → Option ℕ → Type 0
FrameIn c o None = Unit {0}
FrameIn c o (Some f) = (f % 2 ^ o ≡ 0) × (f + 2 ^ o ≤ c.frames)

-- a request that is not refused before the routes
pub record Asks (c : Config) (q : Request) (name : Option ℕ) : Type 0 where
  pub order : q.order ≤ c.tree_order
  pub class : Configured c q.class
  pub local : LocalIn c q.class q.local
  pub frame : FrameIn c q.order name

-- a row of the named frame's tree: a get seeks in that tree
pub in-sought : (z row : ℕ) (name : Option ℕ) → in_tree z row name ≡ true → sought_tree z row name ≡ row / tree_rows z
unfolding in_tree
in-sought z row None e = refl
in-sought z row (Some f) e = sym (eqb-true _ _ e)

-- an aligned frame is the first of its block
pub aligned-block : (f o : ℕ) → f % 2 ^ o ≡ 0 → f / 2 ^ o * 2 ^ o ≡ f
aligned-block f o e = omega (arith, e, div-add-mod f (2 ^ o), mul_comm (2 ^ o) (f / 2 ^ o))

-- the return of a reservation that is in hand is never stuck
module _ {A : Type 0} (Q : A → Type 0) (c : Config) (sz : Size c.tree_order) (s : State) (n h : ℕ → ℕ) (H : Hand c s.trees s.locals s.bits n h) where
  pub back-ind : (t k x : ℕ) (m g : ℕ → ℕ) (y fails : State → A) → t < trees_of c → Configured c k → Good c k (entry_at s.trees t).class
      → ((i : ℕ) → n i ≡ m i + here t x i) → ((i : ℕ) → h i ≡ g i + here t 1 i)
      → ((ts : List ℕ) → Hand c ts s.locals s.bits m g → Q (y (with_trees s ts)))
      → Q (unreserve c t k x s y fails)
  back-ind t k x m g y fails lt conf good frames one next =
      unreserve-ind Q s c t k x y fails
      (λ e r _ or. next _ (hand-back c sz s.trees s.locals s.bits n h H t lt x e m g
      (⊎_elim (λ q. subst (Configured c) (sym q) conf) (λ q. subst (Configured c) (sym q) (H.class t lt)) or) frames one))
      (λ no'. absurd (no' (hand-reserved c sz s.trees s.locals s.bits n h H t lt (omega (arith, one t, here-same t 1 t refl))) good))

module _ (c : Config) (sz : Size c.tree_order) (q : Request) (name : Option ℕ) (A : Asks c q name) where
  -- the found block of tree t, of a request's order, is granted
  module _ (s : State) (n h : ℕ → ℕ) (H : Hand c s.trees s.locals s.bits n h) (row t : ℕ) (at : sought_tree c.tree_order row name ≡ t)
      (j : ℕ) (N : Named c.tree_order s.bits row q.order name j) where
    pub found_inside : Inside c.tree_order q.order t j
    found_inside = rw at at N.inside

    pub found_below : j * 2 ^ q.order + 2 ^ q.order ≤ c.frames
    found_below = free-below s.bits q.order j c.frames N.block N.free H.past

    pub found-hold : (m : ℕ → ℕ) → ((i : ℕ) → n i ≡ m i + here t (size q) i) → Hand c s.trees s.locals (mark true s.bits q.order j) m h
    found-hold m frames = hand-hold c sz s.trees s.locals s.bits n h H q.order j t N.block found_inside m N.free frames

    pub found-granted : (k : ℕ) → Configured c k → GrantedBlock c q.order name s.bits (j * 2 ^ q.order) k (mark true s.bits q.order j)
    found-granted k conf =
        record { block = j; frame = refl; below = found_below; inside = N.block; free = N.free; named = asked name A.frame N.named; bits = refl; class = conf }
      where
        asked : (x : Option ℕ) → FrameIn c q.order x → IsNamed x q.order j → Asked x (j * 2 ^ q.order)
        asked None a d = tt
        asked (Some f) a d = ap (λ (y : ℕ). y * 2 ^ q.order) d ∙ aligned-block f q.order a.0

  -- the lower is asked for frames of tree t that are in hand
  pub ask_lower-fine : (s : State) (t row k : ℕ) → Hand c s.trees s.locals s.bits (here t (size q)) nothing → t < trees_of c → sought_tree c.tree_order row name ≡ t → Configured c k
      → Fine c q.order name s.bits (ask_lower c q name t row k s)
  unfolding put_entry with_trees with_try
  ask_lower-fine s t row k H lt at conf =
      ask_lower-ind (Fine c q.order name s.bits) c q name t row k s sz.least sz.most A.order
      (λ j N. (found-hold s (here t (size q)) nothing H row t at j N nothing (λ i. omega arith), found-granted s (here t (size q)) nothing H row t at j N k conf))
      (λ _. (hand-put c sz s.trees s.locals s.bits (here t (size q)) nothing H t lt (size q) nothing (λ i. omega arith), refl))

-- the next route is asked where this one came back empty
pub else-fine : (c : Config) (o : ℕ) (name : Option ℕ) (b : List ℕ) (w : Way) (next : State → Way) → Fine c o name b w
    → ((s : State) → Kept c s.trees s.locals s.bits → Fine c o name s.bits (next s)) → Fine c o name b (or_else w next)
else-fine c o name b w next F f =
    else-ind (Fine c o name b) (Fine c o name b) w F (λ x k s g. g) (λ s g. absurd g.1) next
    (λ s g. subst (λ (d : List ℕ). Fine c o name d (next s)) g.1 (f s g.0))
    (λ t s g. subst (λ (d : List ℕ). Fine c o name d (next s)) g.1 (f s g.0))
