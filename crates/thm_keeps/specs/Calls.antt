-- What one call does to a state that passes the standing rules. One record for each call. Assumes nothing.
use Rattle.std.specs.Prelude.{◌≡◌, Bool, ◌≢◌, ◌⊎◌, List, length, get_or, Option}
use Rattle.std.proofs.Math.Path.{refl, sym, ap}
use Rattle.std.proofs.Common.{◌∙◌, subst, ⊎_elim, arith}
use Rattle.std.proofs.Math.Bool.{true, false}
use Rattle.std.proofs.Math.Logic.{inl, inr}
use Prim.Native.Nat.{ℕ, zero, suc, ◌+◌, ◌*◌, ◌/◌, ◌^◌, ◌<◌, ◌≤◌}
use Rattle.rules.specs.Base.{both, Out, out}
use Rattle.rules.specs.Words.{Config, tree_frames, tree_rows, trees_of, local_count, entry_at}
use Rattle.rules.specs.Policy.{accepted}
use Rattle.rules.specs.Lower.{bit, held_in, mark}
use Rattle.rules.specs.declared.Request.{Request}
use Rattle.rules.specs.declared.Tree.{Tree}
use Rattle.rules_calls.specs.declared.Got.TheVariants as Got
use Rattle.rules_calls.specs.State.{State, Way, size, with_bits}
use Rattle.rules_calls.specs.Get.{routes}
use Rattle.rules_calls.specs.Standing.{standing, lengths_exact}
use Rattle.rules_calls.specs.Calls.{Told, telling, fresh, unless, if_standing, refusal, close, frame_of, get, put, drain_classes, close_drain, drain, free_at_start, fresh_state, start}
use Rattle.law_rules.specs.Block.{Block}
use Rattle.law_rules.specs.Sizes.{Size, count-frames, count_bits}
use Rattle.law_rules.specs.All.{true-false, both_left}
use Rattle.thm_hand.specs.Hand.{here, nothing, Kept}
use Rattle.law_calls.specs.Steps.{ifte-ind}
use Rattle.law_calls.specs.Checked.{Checked, refusal-checked, refusal-range}
use Rattle.law_calls.specs.Answers.{unless-ind, standing-ind, given-ind}
use Rattle.thm_hand.specs.Moves.{hand-free}
use Rattle.thm_keeps.specs.Fine.{GrantedBlock, Fine, aligned-block}
use Rattle.thm_keeps.specs.Routes.{routes-fine}
use Rattle.thm_keeps.specs.Asked.{asks, asked-tree, has-trees}
use Rattle.thm_keeps.specs.Drains.{Drained, all-drained, none_left}
use Rattle.thm_keeps.specs.Fresh.{fresh-clear, fresh_set, zeros-at, fresh-entry, bits-length, fresh_kept}
use Rattle.thm_keeps.specs.Puts.{put_to-settled}

-- ---- get, of any request: b are the bits before, r what the call tells
pub record GetAny (c : Config) (q : Request) (name : Option ℕ) (b : List ℕ) (r : Told) : Type 0 where
  -- the rules stand
  pub kept : Kept c r.trees r.locals r.bits
  -- never Broken, never Stuck
  pub sound : r.number ≢ 1
  pub loose : r.number ≢ 9
  -- Done: the block was wholly free, aligned, below F, and the named one; it is what the bitmap holds more; its class is configured
  pub granted : r.number ≡ 0 → GrantedBlock c q.order name b r.frame r.class r.bits
  -- else no bit changes
  pub unchanged : r.number ≢ 0 → r.bits ≡ b

-- of a request that no argument test refuses
pub record GetKeeps (c : Config) (q : Request) (name : Option ℕ) (b : List ℕ) (r : Told) : Type 0 where
  pub any : GetAny c q name b r
  -- Done or Memory
  pub number : (r.number ≡ 0) ⊎ (r.number ≡ 7)

-- ---- the block at frame f of order o is given back: b are the bits before, d after
pub record Returned (c : Config) (o : ℕ) (b : List ℕ) (f : ℕ) (d : List ℕ) : Type 0 where
  -- the number of the block: it is aligned
  pub block : ℕ
  pub frame : f ≡ block * 2 ^ o
  -- it lies below F, and in the bitmap
  pub below : f + 2 ^ o ≤ c.frames
  pub inside : Block b o block
  -- it was wholly held
  pub held : held_in b o block ≡ 2 ^ o
  -- it is what the bitmap holds less
  pub bits : d ≡ mark false b o block

-- put, of any request
pub record PutAny (c : Config) (q : Request) (f : ℕ) (t l b : List ℕ) (r : Told) : Type 0 where
  -- the rules stand
  pub kept : Kept c r.trees r.locals r.bits
  -- never Broken, never Stuck
  pub sound : r.number ≢ 1
  pub loose : r.number ≢ 9
  -- Done: the block was wholly held, and is now free
  pub returned : r.number ≡ 0 → Returned c q.order b f r.bits
  -- else nothing changes
  pub unchanged : r.number ≢ 0 → (r.trees ≡ t) × ((r.locals ≡ l) × (r.bits ≡ b))

-- of a request that no argument test refuses
pub record PutKeeps (c : Config) (q : Request) (f : ℕ) (t l b : List ℕ) (r : Told) : Type 0 where
  pub any : PutAny c q f t l b r
  -- Done or NotHeld
  pub number : (r.number ≡ 0) ⊎ (r.number ≡ 8)
  -- NotHeld: a frame of the block is free
  pub refused : r.number ≡ 8 → held_in b q.order (f / 2 ^ q.order) ≢ 2 ^ q.order

-- ---- drain
pub record DrainKeeps (c : Config) (b : List ℕ) (r : Told) : Type 0 where
  -- the rules stand
  pub kept : Kept c r.trees r.locals r.bits
  -- Done: never Stuck
  pub number : r.number ≡ 0
  -- no bit changes
  pub bits : r.bits ≡ b
  -- all locals are absent
  pub absent : (j : ℕ) → get_or r.locals j 0 ≡ 0

-- ---- start, accepted: the first g frames are free
pub record StartKeeps (c : Config) (g : ℕ) (r : Told) : Type 0 where
  -- the rules stand
  pub kept : Kept c r.trees r.locals r.bits
  -- Done
  pub number : r.number ≡ 0
  -- the first g frames are free, all others held
  pub clear : (f : ℕ) → f < g → bit r.bits f ≡ 0
  pub set : (f : ℕ) → g ≤ f → f < length r.bits * 64 → bit r.bits f ≡ 1
  -- all locals are absent
  pub absent : (j : ℕ) → get_or r.locals j 0 ≡ 0
  -- entries have the default class, unreserved
  pub reserved : (t : ℕ) → t < trees_of c → (entry_at r.trees t).reserved ≡ false
  pub class : (t : ℕ) → t < trees_of c → (entry_at r.trees t).class ≡ c.default

-- a start has no frame free at or past F
pub at-start : (all_free : Bool) (f : ℕ) → free_at_start all_free f ≤ f
unfolding free_at_start
at-start true f = omega arith
at-start false f = omega arith

module _ (c : Config) (t l b : List ℕ) where
  -- ---- a state that fails the test, and a refused request: nothing changes

  is-refused : (m n : ℕ) (next : State → Told) → standing c t l b ≡ true → m ≡ suc n → if_standing c (fresh t l b) (λ s. unless m s next) ≡ telling (suc n) 0 0 (fresh t l b)
  is-refused m n next h e =
      standing-ind (λ (r : Told). r ≡ telling (suc n) 0 0 (fresh t l b)) c (fresh t l b) _
      (λ _. unless-ind (λ (r : Told). r ≡ telling (suc n) 0 0 (fresh t l b)) m (fresh t l b) next
      (λ i d. (let x : suc i ≡ suc n = sym d ∙ e in ap (λ (y : ℕ). telling y 0 0 (fresh t l b)) x))
      (λ d. absurd (omega (arith, d, e))))
      (λ g. true-false h g)

  pub get_refused : (q : Request) (name : Option ℕ) (n : ℕ) → standing c t l b ≡ true → refusal c q (frame_of name) ≡ suc n → get c q name t l b ≡ telling (suc n) 0 0 (fresh t l b)
  unfolding get
  get_refused q name n h e = is-refused (refusal c q (frame_of name)) n _ h e

  pub put_refused : (q : Request) (f n : ℕ) → standing c t l b ≡ true → refusal c q f ≡ suc n → put c q f t l b ≡ telling (suc n) 0 0 (fresh t l b)
  unfolding put
  put_refused q f n h e = is-refused (refusal c q f) n _ h e

  -- ---- the state passes the test
  module _ (sz : Size c.tree_order) (S : standing c t l b ≡ true) (K : Kept c t l b) where
    missed-any : (q : Request) (name : Option ℕ) (s : State) → Fine c q.order name b (out Got.Missed s) → GetAny c q name b (telling 7 0 0 s)
    missed-any q name s F = record { kept = F.0; sound = λ x. omega (arith, x); loose = λ x. omega (arith, x); granted = λ x. absurd (omega (arith, x)); unchanged = λ _. F.1 }

    pub close-keeps : (q : Request) (name : Option ℕ) (w : Way) → Fine c q.order name b w → GetKeeps c q name b (close w)
    unfolding close
    close-keeps q name (out (Got.Done f k) s) F =
        record { any = record { kept = F.0; sound = λ x. omega (arith, x); loose = λ x. omega (arith, x); granted = λ _. F.1; unchanged = λ n. absurd (n refl) }; number = inl refl }
    close-keeps q name (out Got.Missed s) F = record { any = missed-any q name s F; number = inr refl }
    close-keeps q name (out (Got.MissedAt t) s) F = record { any = missed-any q name s F; number = inr refl }
    close-keeps q name (out Got.Stuck s) F = absurd F.1

    -- get
    pub get_keeps : (q : Request) (name : Option ℕ) → refusal c q (frame_of name) ≡ 0 → GetKeeps c q name b (get c q name t l b)
    unfolding get
    get_keeps q name e =
        standing-ind (GetKeeps c q name b) c (fresh t l b) _
        (λ _. unless-ind (GetKeeps c q name b) (refusal c q (frame_of name)) (fresh t l b) _
        (λ n d. absurd (omega (arith, d, e)))
        (λ _. close-keeps q name (routes c q name (fresh t l b)) (routes-fine c sz q name (asks c q name (refusal-checked c q (frame_of name) e)) (fresh t l b) K)))
        (λ f. true-false S f)

    -- put
    pub put_keeps : (q : Request) (f : ℕ) → refusal c q f ≡ 0 → PutKeeps c q f t l b (put c q f t l b)
    unfolding put with_bits
    put_keeps q f e =
        standing-ind (PutKeeps c q f t l b) c (fresh t l b) _
        (λ _. unless-ind (PutKeeps c q f t l b) (refusal c q f) (fresh t l b) _
        (λ n d. absurd (omega (arith, d, e)))
        (λ _.
        let A : Checked c q f = refusal-checked c q f e in
        let lt : f / tree_frames c.tree_order < trees_of c = asked-tree c sz q f A in
        let at : f / 2 ^ q.order * 2 ^ q.order ≡ f = aligned-block f q.order A.aligned in
        given-ind (PutKeeps c q f t l b) c.tree_order q.order f (fresh t l b) _ sz.least sz.most A.order
        (λ G.
        let H = hand-free c sz t l b nothing nothing K q.order (f / 2 ^ q.order) (f / tree_frames c.tree_order) G.block G.inside (here (f / tree_frames c.tree_order) (size q)) G.held (omega (arith, at, A.bounds)) (λ i. omega arith) in
        let P = put_to-settled c sz q f lt q.local (fresh t l (mark false b q.order (f / 2 ^ q.order))) H in
        record {
          any = record {
            kept = P.0;
            sound = λ x. omega (arith, x);
            loose = λ x. omega (arith, x);
            returned = λ _. record { block = f / 2 ^ q.order; frame = sym at; below = A.bounds; inside = G.block; held = G.held; bits = P.1 };
            unchanged = λ n. absurd (n refl);
          };
          number = inl refl;
          refused = λ n. absurd (omega (arith, n));
        })
        (λ no'.
        record {
          any = record { kept = K; sound = λ x. omega (arith, x); loose = λ x. omega (arith, x); returned = λ n. absurd (omega (arith, n)); unchanged = λ _. (refl, (refl, refl)) };
          number = inr refl;
          refused = λ _. no' (has-trees c t l b K (f / tree_frames c.tree_order) lt);
        })))
        (λ g. true-false S g)

    -- get and put of any request
    pub get-any : (q : Request) (name : Option ℕ) → GetAny c q name b (get c q name t l b)
    get-any q name = go (refusal c q (frame_of name)) refl
      where
        go : (n : ℕ) → refusal c q (frame_of name) ≡ n → GetAny c q name b (get c q name t l b)
        go zero e = (get_keeps q name e).any
        go (suc n) e =
            let R = ⊎_elim {C = (1 ≤ n) × (n ≤ 5)} (λ y. absurd (omega (arith, e, y))) (λ y. (omega (arith, e, y.0), omega (arith, e, y.1))) (refusal-range c q (frame_of name)) in
            subst (GetAny c q name b) (sym (get_refused q name n S e))
            (record { kept = K; sound = λ x. omega (arith, x, R.0); loose = λ x. omega (arith, x, R.1); granted = λ x. absurd (omega (arith, x)); unchanged = λ _. refl })

    pub put-any : (q : Request) (f : ℕ) → PutAny c q f t l b (put c q f t l b)
    put-any q f = go (refusal c q f) refl
      where
        go : (n : ℕ) → refusal c q f ≡ n → PutAny c q f t l b (put c q f t l b)
        go zero e = (put_keeps q f e).any
        go (suc n) e =
            let R = ⊎_elim {C = (1 ≤ n) × (n ≤ 5)} (λ y. absurd (omega (arith, e, y))) (λ y. (omega (arith, e, y.0), omega (arith, e, y.1))) (refusal-range c q f) in
            subst (PutAny c q f t l b) (sym (put_refused q f n S e))
            (record { kept = K; sound = λ x. omega (arith, x, R.0); loose = λ x. omega (arith, x, R.1); returned = λ x. absurd (omega (arith, x)); unchanged = λ _. (refl, (refl, refl)) })

    -- drain
    drained-keeps : (w : Out Bool State) → Drained c b (local_count c.places) w → DrainKeeps c b (close_drain w)
    unfolding close_drain
    drained-keeps (out true s) E = record { kept = E.kept; number = refl; bits = E.bits; absent = none_left c s.trees s.locals s.bits E.kept E.absent }
    drained-keeps (out false s) E = absurd E

    pub drain-keeps : DrainKeeps c b (drain c t l b)
    unfolding drain
    drain-keeps =
        standing-ind (DrainKeeps c b) c (fresh t l b) _
        (λ _. drained-keeps (drain_classes 8 c 0 (fresh t l b)) (all-drained c sz b (fresh t l b) K refl))
        (λ f. true-false S f)

  -- ---- start: all free, or all held
  pub start-keeps : Size c.tree_order → (all_free : Bool) → both (accepted c) (lengths_exact c t l b) ≡ true → StartKeeps c (free_at_start all_free c.frames) (start c all_free t l b)
  unfolding start fresh_state
  start-keeps sz all_free e =
      let ok : accepted c ≡ true = both_left (accepted c) (lengths_exact c t l b) e in
      let g : ℕ = free_at_start all_free c.frames in
      let le : g ≤ c.frames = at-start all_free c.frames in
      ifte-ind (StartKeeps c (free_at_start all_free c.frames)) (both (accepted c) (lengths_exact c t l b)) _ _
      (λ _.
      record {
        kept = fresh_kept c sz ok g le;
        number = refl;
        clear = λ f lt. fresh-clear g (tree_rows c.tree_order * trees_of c) f (omega (arith, le, lt, count-frames c.tree_order sz c.frames, count_bits c.tree_order sz c.frames)) lt;
        set = λ f ge lt. fresh_set g (tree_rows c.tree_order * trees_of c) f (rw (bits-length c sz ok g le) at lt) ge;
        absent = zeros-at (local_count c.places);
        reserved = λ i lt. ap (λ (x : Tree). x.reserved) (fresh-entry c sz ok g le i lt);
        class = λ i lt. ap (λ (x : Tree). x.class) (fresh-entry c sz ok g le i lt);
      })
      (λ f. true-false e f)

  pub start-refused : (all_free : Bool) → both (accepted c) (lengths_exact c t l b) ≡ false → start c all_free t l b ≡ telling 10 0 0 (fresh t l b)
  unfolding start
  start-refused all_free e = ifte-ind (λ (r : Told). r ≡ telling 10 0 0 (fresh t l b)) (both (accepted c) (lengths_exact c t l b)) _ _ (λ h. true-false h e) (λ _. refl)

  -- a start that is Done was accepted
  pub start-done : (all_free : Bool) → (start c all_free t l b).number ≡ 0 → both (accepted c) (lengths_exact c t l b) ≡ true
  unfolding start
  start-done all_free = ifte-ind (λ (r : Told). r.number ≡ 0 → both (accepted c) (lengths_exact c t l b) ≡ true) (both (accepted c) (lengths_exact c t l b)) _ _ (λ h _. h) (λ _ e. absurd (omega (arith, e)))
