-- What one call does to the rules and to the ledger, where both agree: a record for each call. Assumes nothing.
use Rattle.std.specs.Prelude.{◌≡◌, Bool, not, ◌≢◌, ◌⊎◌, eqb, length, Option, Result, Ok, Err, ⊤}
use Rattle.std.proofs.Math.Path.{refl, sym, ap, subst}
use Rattle.std.proofs.Common.{◌∙◌, ⊎_elim, arith, leb-true, leb-false}
use Rattle.std.proofs.Math.Bool.{true, false}
use Rattle.std.proofs.Math.Logic.{inl, inr}
use mathlib.Core.List.{List}
use Prim.Native.Nat.{ℕ, zero, suc, ◌+◌, ◌*◌, ◌^◌, ◌<◌, ◌≤◌}
use Rattle.std.proofs.Math.Dec.{leb}
use Rattle.rules.specs.Base.{both, either, bit_of}
use Rattle.rules.specs.Words.{Config, trees_of, local_of, entry_at}
use Rattle.rules.specs.Policy.{accepted}
use Rattle.rules.specs.Lower.{bit, clear, mark}
use Rattle.rules.specs.declared.Request.{Request}
use Rattle.rules.specs.declared.Tree.{Tree}
use Rattle.rules_calls.specs.declared.Granted.{Granted}
use Rattle.rules_calls.specs.declared.Tally.{Tally}
use Rattle.rules_calls.specs.declared.Totals.{Totals}
use Rattle.rules_calls.specs.State.{st}
use Rattle.rules_calls.specs.Standing.{standing, lengths_exact}
use Rattle.rules_calls.specs.Calls.{Told, outcome_of, tell_get, told, refusal, frame_of, get, put, drain, free_at_start, fresh_state, start}
use Rattle.rules_calls.specs.Statistics.{Report, told_totals, statistics}
use Rattle.rules_calls.specs.Promises.{Words, words}
use Rattle.law_rules.specs.Clear.{clear-held}
use Rattle.law_rules.specs.All.{true-false, both_left}
use Rattle.law_rules.specs.Sizes.{Size, count-frames, count_bits}
use Rattle.law_rules.specs.RoundTrips.{absent-word, bit-true, bit-false}
use Rattle.thm_hand.specs.Hand.{Kept}
use Rattle.law_calls.specs.Steps.{ifte-ind}
use Rattle.law_calls.specs.Checked.{refusal-checked}
use Rattle.thm_keeps.specs.Fine.{GrantedBlock}
use Rattle.thm_keeps.specs.Fresh.{fresh-entry}
use Rattle.thm_keeps.specs.Calls.{GetAny, PutAny, DrainKeeps, StartKeeps, Returned, get-any, get_refused, put-any, put_refused, drain-keeps, at-start, start-keeps, start-done}
use Rattle.thm_complete.specs.Complete.{refused}
use Rattle.thm_keeps.specs.Holders.{on_none}
use Rattle.thm_keeps.specs.Standing.{kept_test}
use Rattle.thm_sequence.specs.Demand.{number_got, frames_in, in_block, handed, gave_back, held_at_start, held_after_get, held_after_put, NotYetHeld, AllHeld, free_in}
use Rattle.thm_sequence.proofs.Blocks.{free-frame, held-frame, take-agrees, give-agrees, take-counts, give-counts, in-block}
use Rattle.rules_calls.specs.declared.Refusal.{Refusal}

-- the rules stand, and the ledger holds what the bitmap holds
pub record Agreed (c : Config) (held : ℕ → Bool) (s : Words) : Type 0 where
  pub kept : Kept c s.trees s.locals s.bits
  pub agree : (x : ℕ) → x < c.frames → bit_of (held x) ≡ bit s.bits x

module _ (c : Config) (sz : Size c.tree_order) (held : ℕ → Bool) (s : Words) (A : Agreed c held s) where
  passes : standing c s.trees s.locals s.bits ≡ true
  passes = kept_test c sz s.trees s.locals s.bits A.kept

  -- ---- get
  pub record GetStep (q : Request) (g : Result Granted Refusal) (m : Words) : Type 0 where
    pub after : Agreed c (held_after_get held q.order g) m
    pub counts : (t : ℕ) → clear c.tree_order m.bits t + handed c.tree_order t q.order g ≡ clear c.tree_order s.bits t
    pub once : NotYetHeld held q.order g
    pub sound : number_got g ≢ 1
    pub loose : number_got g ≢ 9

  -- a get that is Done was of an order that there is
  get-order : (q : Request) (name : Option ℕ) → (get c q name s.trees s.locals s.bits).number ≡ 0 → q.order ≤ c.tree_order
  get-order q name e = go (refusal c q (frame_of name)) refl
    where
      go : (n : ℕ) → refusal c q (frame_of name) ≡ n → q.order ≤ c.tree_order
      go zero d = (refusal-checked c q (frame_of name) d).order
      go (suc n) d = absurd (omega (arith, e, ap (λ (x : Told). x.number) (get_refused c s.trees s.locals s.bits q name n passes d)))

  pub get-step : (q : Request) (name : Option ℕ) (g : Result Granted Refusal) (m : Words) (i k : ℕ)
      → tell_get g (st m.trees m.locals m.bits i k) ≡ get c q name s.trees s.locals s.bits → GetStep q g m
  unfolding tell_get number_got handed held_after_get
  get-step q name (Ok u) m i k P =
      let G : GetAny c q name s.bits (tell_get (Ok u) (st m.trees m.locals m.bits i k)) =
      subst (GetAny c q name s.bits) (sym P) (get-any c s.trees s.locals s.bits sz passes A.kept q name) in
      let D : GrantedBlock c q.order name s.bits u.frame u.class m.bits = G.granted refl in
      let le : q.order ≤ c.tree_order = get-order q name (sym (ap (λ (x : Told). x.number) P)) in
      let j : ℕ = D.block in
      record {
        after = record {
          kept = G.kept;
          agree = λ x lt.
              ap (λ (y : ℕ). bit_of (either (in_block q.order y x) (held x))) D.frame ∙ take-agrees s.bits q.order D.block D.inside x (held x) (A.agree x lt)
              ∙ sym (ap (λ (y : List ℕ). bit y x) D.bits);
        };
        counts = λ t.
            ap (λ (y : List ℕ). clear c.tree_order y t + frames_in c.tree_order t q.order u.frame) D.bits
            ∙ ap (λ (y : ℕ). clear c.tree_order (mark true s.bits q.order D.block) t + frames_in c.tree_order t q.order y) D.frame
            ∙ take-counts s.bits q.order D.block D.inside c.tree_order sz.least le D.free t;
        once = λ x n.
            let n' : in_block q.order (D.block * 2 ^ q.order) x ≡ true = subst (λ (y : ℕ). in_block q.order y x ≡ true) D.frame n in
            let v = in-block q.order u.frame x n in
            bit-false (held x) (A.agree x (omega (arith, v.1, D.below)) ∙ free-frame s.bits q.order D.block D.inside D.free x n');
        sound = λ z. omega (arith, z);
        loose = λ z. omega (arith, z);
      }
  get-step q name (Err w) m i k P =
      let G : GetAny c q name s.bits (tell_get (Err w) (st m.trees m.locals m.bits i k)) =
      subst (GetAny c q name s.bits) (sym P) (get-any c s.trees s.locals s.bits sz passes A.kept q name) in
      let e : m.bits ≡ s.bits = G.unchanged (refused w) in
      record {
        after = record { kept = G.kept; agree = λ x lt. A.agree x lt ∙ sym (ap (λ (y : List ℕ). bit y x) e) };
        counts = λ t. (let d : clear c.tree_order m.bits t ≡ clear c.tree_order s.bits t = ap (λ (y : List ℕ). clear c.tree_order y t) e in omega arith);
        once = tt;
        sound = G.sound;
        loose = G.loose;
      }

  -- ---- put
  pub record PutStep (q : Request) (f : ℕ) (r : Result ⊤ Refusal) (m : Words) : Type 0 where
    pub after : Agreed c (held_after_put held q.order f r) m
    pub counts : (t : ℕ) → clear c.tree_order m.bits t ≡ clear c.tree_order s.bits t + gave_back c.tree_order t q.order f r
    pub once : AllHeld held q.order f r
    pub sound : outcome_of r ≢ 1
    pub loose : outcome_of r ≢ 9

  put_order : (q : Request) (f : ℕ) → (put c q f s.trees s.locals s.bits).number ≡ 0 → q.order ≤ c.tree_order
  put_order q f e = go (refusal c q f) refl
    where
      go : (n : ℕ) → refusal c q f ≡ n → q.order ≤ c.tree_order
      go zero d = (refusal-checked c q f d).order
      go (suc n) d = absurd (omega (arith, e, ap (λ (x : Told). x.number) (put_refused c s.trees s.locals s.bits q f n passes d)))

  pub put_step : (q : Request) (f : ℕ) (r : Result ⊤ Refusal) (m : Words) → told r m.trees m.locals m.bits ≡ put c q f s.trees s.locals s.bits → PutStep q f r m
  unfolding outcome_of gave_back held_after_put
  put_step q f (Ok tt) m P =
      let G : PutAny c q f s.trees s.locals s.bits (told (Ok tt) m.trees m.locals m.bits) =
      subst (PutAny c q f s.trees s.locals s.bits) (sym P) (put-any c s.trees s.locals s.bits sz passes A.kept q f) in
      let D : Returned c q.order s.bits f m.bits = G.returned refl in
      let le : q.order ≤ c.tree_order = put_order q f (sym (ap (λ (x : Told). x.number) P)) in
      record {
        after = record {
          kept = G.kept;
          agree = λ x lt.
              ap (λ (y : ℕ). bit_of (both (not (in_block q.order y x)) (held x))) D.frame ∙ give-agrees s.bits q.order D.block D.inside x (held x) (A.agree x lt)
              ∙ sym (ap (λ (y : List ℕ). bit y x) D.bits);
        };
        counts = λ t.
            ap (λ (y : List ℕ). clear c.tree_order y t) D.bits
            ∙ give-counts s.bits q.order D.block D.inside c.tree_order sz.least le D.held t
            ∙ sym (ap (λ (y : ℕ). clear c.tree_order s.bits t + frames_in c.tree_order t q.order y) D.frame);
        once = λ x n.
            let n' : in_block q.order (D.block * 2 ^ q.order) x ≡ true = subst (λ (y : ℕ). in_block q.order y x ≡ true) D.frame n in
            let v = in-block q.order f x n in
            bit-true (held x) (A.agree x (omega (arith, v.1, D.below)) ∙ held-frame s.bits q.order D.block D.inside D.held x n');
        sound = λ z. omega (arith, z);
        loose = λ z. omega (arith, z);
      }
  put_step q f (Err w) m P =
      let G : PutAny c q f s.trees s.locals s.bits (told (Err w) m.trees m.locals m.bits) =
      subst (PutAny c q f s.trees s.locals s.bits) (sym P) (put-any c s.trees s.locals s.bits sz passes A.kept q f) in
      let u = G.unchanged (refused w) in
      let e : m.bits ≡ s.bits = u.1.1 in
      record {
        after = record { kept = G.kept; agree = λ x lt. A.agree x lt ∙ sym (ap (λ (y : List ℕ). bit y x) e) };
        counts = λ t. (let d : clear c.tree_order m.bits t ≡ clear c.tree_order s.bits t = ap (λ (y : List ℕ). clear c.tree_order y t) e in omega arith);
        once = tt;
        sound = G.sound;
        loose = G.loose;
      }

  -- ---- drain: always Done
  pub record DrainStep (r : Result ⊤ Refusal) (m : Words) : Type 0 where
    pub after : Agreed c held m
    pub counts : (t : ℕ) → clear c.tree_order m.bits t ≡ clear c.tree_order s.bits t
    pub done : outcome_of r ≡ 0

  pub drain-step : (r : Result ⊤ Refusal) (m : Words) → told r m.trees m.locals m.bits ≡ drain c s.trees s.locals s.bits → DrainStep r m
  drain-step r m P =
      let D : DrainKeeps c s.bits (told r m.trees m.locals m.bits) =
      subst (DrainKeeps c s.bits) (sym P) (drain-keeps c s.trees s.locals s.bits sz passes A.kept) in
      record {
        after = record { kept = D.kept; agree = λ x lt. A.agree x lt ∙ sym (ap (λ (y : List ℕ). bit y x) D.bits) };
        counts = λ t. ap (λ (y : List ℕ). clear c.tree_order y t) D.bits;
        done = D.number;
      }

  -- ---- statistics: Done or Rows
  counted : (rows : List Tally) → ((statistics c s.trees s.locals s.bits rows).number ≡ 0) ⊎ ((statistics c s.trees s.locals s.bits rows).number ≡ 11)
  unfolding statistics
  counted rows =
      ifte-ind (λ (x : Report). (x.number ≡ 0) ⊎ (x.number ≡ 11)) (standing c s.trees s.locals s.bits) _ _
      (λ _. ifte-ind (λ (x : Report). (x.number ≡ 0) ⊎ (x.number ≡ 11)) (eqb (length rows) 8) _ _ (λ _. inl refl) (λ _. inr refl))
      (λ f. true-false passes f)

  pub count-step : (rows : List Tally) (r : Result Totals Refusal) (filled : List Tally) → told_totals r filled ≡ statistics c s.trees s.locals s.bits rows
      → ((told_totals r filled).number ≢ 1) × ((told_totals r filled).number ≢ 9)
  count-step rows r filled P =
      let n : (told_totals r filled).number ≡ (statistics c s.trees s.locals s.bits rows).number = ap (λ (x : Report). x.number) P in
      (λ z. ⊎_elim (λ y. omega (arith, n, y, z)) (λ y. omega (arith, n, y, z)) (counted rows), λ z. ⊎_elim (λ y. omega (arith, n, y, z)) (λ y. omega (arith, n, y, z)) (counted rows))

-- ---- a refused start is Config
started : (d : Config) (all_free : Bool) (t l b : List ℕ) → ((start d all_free t l b).number ≡ 0) ⊎ ((start d all_free t l b).number ≡ 10)
unfolding start
started d all_free t l b = ifte-ind (λ (x : Told). (x.number ≡ 0) ⊎ (x.number ≡ 10)) (both (accepted d) (lengths_exact d t l b)) _ _ (λ _. inl refl) (λ _. inr refl)

pub refused-start : (d : Config) (all_free : Bool) (s : Words) (r : Result ⊤ Refusal) (m : Words) → told r m.trees m.locals m.bits ≡ start d all_free s.trees s.locals s.bits → outcome_of r ≢ 0
    → outcome_of r ≡ 10
refused-start d all_free s r m P no' =
    ap (λ (x : Told). x.number) P
    ∙ ⊎_elim (λ e. absurd (no' (ap (λ (x : Told). x.number) P ∙ e))) (λ e. e) (started d all_free s.trees s.locals s.bits)

-- ---- an accepted start: the rules stand, and the ledger begins
module _ (c : Config) (sz : Size c.tree_order) (all_free : Bool) (s0 : Words) where
  pub record StartStep (s : Words) : Type 0 where
    pub begins : Agreed c (held_at_start all_free c.frames) s
    pub counts : (t : ℕ) → t < trees_of c → clear c.tree_order s.bits t ≡ free_in c.tree_order (free_at_start all_free c.frames) t

  -- each entry has its tree's free frames
  entry_free : both (accepted c) (lengths_exact c s0.trees s0.locals s0.bits) ≡ true → (t : ℕ) → t < trees_of c
      → (entry_at (start c all_free s0.trees s0.locals s0.bits).trees t).free ≡ free_in c.tree_order (free_at_start all_free c.frames) t
  unfolding start fresh_state free_in
  entry_free ok t lt =
      ifte-ind (λ (x : Told). (entry_at x.trees t).free ≡ free_in c.tree_order (free_at_start all_free c.frames) t) (both (accepted c) (lengths_exact c s0.trees s0.locals s0.bits)) _ _
      (λ _. ap (λ (x : Tree). x.free) (fresh-entry c sz (both_left (accepted c) _ ok) (free_at_start all_free c.frames) (at-start all_free c.frames) t lt))
      (λ f. true-false ok f)

  begun : (r : Told) → StartKeeps c (free_at_start all_free c.frames) r → ((t : ℕ) → t < trees_of c → (entry_at r.trees t).free ≡ free_in c.tree_order (free_at_start all_free c.frames) t)
      → StartStep (words r.trees r.locals r.bits)
  unfolding held_at_start
  begun r S E =
      record {
        begins = record { kept = S.kept; agree = λ x lt. go x lt (leb (free_at_start all_free c.frames) x) refl };
        counts = λ t lt.
            let none = on_none c.tree_order t r.locals (λ j p o. true-false p (ap (λ (x : ℕ). (local_of x).present) (S.absent j) ∙ absent-word)) in
            omega (arith, S.kept.sum t lt, none.1, E t lt, clear-held c.tree_order r.bits t sz.least);
      }
    where
      go : (x : ℕ) → x < c.frames → (b : Bool) → leb (free_at_start all_free c.frames) x ≡ b → bit_of (leb (free_at_start all_free c.frames) x) ≡ bit r.bits x
      go x lt true e =
          ap bit_of e ∙ sym (S.set x (leb-true _ _ e) (omega (arith, lt, S.kept.bit_words, count-frames c.tree_order sz c.frames, count_bits c.tree_order sz c.frames)))
      go x lt false e = ap bit_of e ∙ sym (S.clear x (leb-false _ _ e))

  pub start-step : (r : Result ⊤ Refusal) (s : Words) → told r s.trees s.locals s.bits ≡ start c all_free s0.trees s0.locals s0.bits → outcome_of r ≡ 0 → StartStep s
  start-step r s P z =
      let ok = start-done c s0.trees s0.locals s0.bits all_free (sym (ap (λ (x : Told). x.number) P) ∙ z) in
      subst (λ (x : Told). StartStep (words x.trees x.locals x.bits)) (sym P)
      (begun (start c all_free s0.trees s0.locals s0.bits) (start-keeps c s0.trees s0.locals s0.bits sz all_free ok) (entry_free ok))
