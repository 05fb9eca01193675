-- The computed test of header and table says what 01 says, both ways; what an accepted table gives. Assumes nothing.
use Rattle.std.specs.Prelude.{◌≡◌, eqb, ltb}
use Rattle.std.proofs.Common.{sym, ◌∙◌, mod-eq_of_lt}
use Rattle.std.proofs.Math.Bool.{true}
use Prim.Native.Nat.{ℕ, ◌+◌, ◌*◌, ◌/◌, ◌%◌, ◌^◌, ◌<◌, ◌≤◌}
use native.Mathlib.Omega.{arith}
use Rattle.std.proofs.Math.Dec.{leb}
use Rattle.std.proofs.Math.ListN.{get_or}
use borrow.Author.Tests.{leb-true, le-leb, ltb-true, ltb-false, lt-ltb, eq-eqb, ne_eqb, eqb-true, eqb-false}
use Rattle.rules.specs.Base.{pick, both, all_below}
use Rattle.rules.specs.Words.{Config, tree_frames, trees_of, configured, locals_of}
use Rattle.rules.specs.Policy.{pair_of, kind_of, cut_of, low_of, high_of, kind_at, good, pair_formed, pair_accepted, table_formed, implies, rules_at, table_rules, frames_accepted, places_accepted, default_accepted, accepted, Configured, Good, Accepts}
use Rattle.law_rules.specs.All.{by, both_left, both_right, both_true, implies-at, implies-make, all-at, all-make}
use Rattle.law_rules.specs.Count.{count-some, count_most}
use Rattle.law_rules.specs.Kinds.{good-true, good-fact, configured-true, configured-fact, unconfigured-fact}

-- a pair's word in 01's words, kind by kind
pub record PairForm (z w : ℕ) : Type 0 where
  -- a Match has a cut (0 to 2,048)
  pub cut : kind_of w ≡ 3 → cut_of w ≤ tree_frames z
  -- other kinds hold zeros there: in cut and ratings
  pub zeros : (kind_of w ≡ 3 → ⊥) → (cut_of w ≡ 0) × ((low_of w ≡ 0) × (high_of w ≡ 0))

-- a policy table that is accepted, in 01's words
pub record AcceptedTable (c : Config) : Type 0 where
  -- a Match has a cut and two ratings, other kinds hold zeros there
  pub formed : (o e : ℕ) → o < 8 → e < 8 → PairForm c.tree_order (pair_of c o e)
  -- a pair with an unconfigured class is Invalid
  pub invalid : (o e : ℕ) → o < 8 → e < 8 → (Configured c o × Configured c e → ⊥) → kind_at c o e ≡ 0
  -- the three rules over configured classes
  pub rules : Accepts c

-- header and policy table as a start accepts them, in 01's words
pub record AcceptedConfig (c : Config) : Type 0 where
  -- frames F: 1 to 2,097,152
  pub some : 1 ≤ c.frames
  pub most : c.frames ≤ 1024 * tree_frames c.tree_order
  -- classes 0 to 7; each is unconfigured or has 0 to 32 locals
  pub locals : (k : ℕ) → Configured c k → locals_of c.places k ≤ 32
  -- the default is a configured class
  pub default : Configured c c.default
  -- the table
  pub table : AcceptedTable c

-- a word with zeros above the kind is the kind alone
pub kind-alone : (w : ℕ) → w / 4 % 2 ^ 14 ≡ 0 → w / 2 ^ 16 % 2 ^ 8 ≡ 0 → w / 2 ^ 24 ≡ 0 → w < 4
kind-alone w a b h =
    let l : w < 2 ^ 24 = omega arith in
    let m : w / 2 ^ 16 < 2 ^ 8 = omega arith in
    let p : w / 2 ^ 16 ≡ 0 = sym (mod-eq_of_lt m) ∙ b in
    let n : w / 4 < 2 ^ 14 = omega arith in
    let q : w / 4 ≡ 0 = sym (mod-eq_of_lt n) ∙ a in
    omega arith

-- the form of a word, as a test and in 01's words
module _ (z w : ℕ) where
  pub formed-says : pair_formed z w ≡ true → PairForm z w
  unfolding pair_formed cut_of low_of high_of
  formed-says h = record {
    cut = λ e. leb-true _ _ (rw (eq-eqb _ _ e) at h);
    zeros = λ n. (let l : w < 4 = ltb-true _ _ (rw (ne_eqb _ _ n) at h) in (omega arith, (omega arith, omega arith)));
  }

  -- the other way
  pub says-formed : PairForm z w → pair_formed z w ≡ true
  unfolding pair_formed cut_of low_of high_of kind_of
  says-formed f = by (eqb (w % 4) 3)
      (λ e. rw e (le-leb _ _ (f.cut (eqb-true _ _ e))))
      (λ e. rw e (lt-ltb w 4 (let g = f.zeros (eqb-false _ _ e) in kind-alone w g.0 g.1.0 g.1.1)))

module _ (c : Config) where
  -- a pair's test: its form, and Invalid where a class is unconfigured
  pub pair-says : (o e : ℕ) → pair_accepted c o e ≡ true → PairForm c.tree_order (pair_of c o e)
  unfolding pair_accepted
  pair-says o e h = formed-says c.tree_order (pair_of c o e) (both_left (pair_formed c.tree_order (pair_of c o e)) _ h)

  -- its second part
  pub pair-invalid : (o e : ℕ) → o < 8 → e < 8 → pair_accepted c o e ≡ true → (Configured c o × Configured c e → ⊥) → kind_at c o e ≡ 0
  unfolding pair_accepted
  pair-invalid o e lo le h n =
      let r : pick (configured c.places o) (pick (configured c.places e) true (eqb (kind_at c o e) 0)) (eqb (kind_at c o e) 0) ≡ true
      = both_right (pair_formed c.tree_order (pair_of c o e)) _ h in
      by (configured c.places o)
      (λ a. by (configured c.places e)
      (λ b. absurd (n (configured-fact c o lo a, configured-fact c e le b)))
      (λ b. eqb-true _ _ (rw (a, b) at r)))
      (λ a. eqb-true _ _ (rw a at r))

  -- the other way
  pub says-pair : (o e : ℕ) → o < 8 → e < 8 → PairForm c.tree_order (pair_of c o e) → ((Configured c o × Configured c e → ⊥) → kind_at c o e ≡ 0) → pair_accepted c o e ≡ true
  unfolding pair_accepted
  says-pair o e lo le f n =
      rw (says-formed c.tree_order (pair_of c o e) f)
      (by (configured c.places o)
      (λ a. by (configured c.places e)
      (λ b. rw (a, b))
      (λ b. rw (a, b) (eq-eqb _ _ (n (λ g. unconfigured-fact c e b g.1)))))
      (λ a. rw a (eq-eqb _ _ (n (λ g. unconfigured-fact c o a g.0)))))

  -- the rules at three classes
  record RulesAt (o e k : ℕ) : Type 0 where
    own : Configured c o → Good c o o
    back : Good c o e → 0 < kind_at c e c.default → Good c o c.default
    down : Good c o e → kind_at c k o ≡ 2 → Good c k e

  -- the test of the three rules says them
  rules-say : (o e k : ℕ) → rules_at c o e k ≡ true → RulesAt o e k
  unfolding rules_at
  rules-say o e k h =
      let own : implies (configured c.places o) (good c o o) ≡ true = both_left (implies (configured c.places o) (good c o o)) _ h in
      let on : good c o e ≡ true → both (implies (ltb 0 (kind_at c e c.default)) (good c o c.default)) (implies (eqb (kind_at c k o) 2) (good c k e)) ≡ true
      = implies-at (good c o e) _ (both_right (implies (configured c.places o) (good c o o)) _ h) in
      record {
        own = λ l. good-fact c o o (implies-at _ _ own (configured-true c o l));
        back = λ g n. good-fact c o c.default (implies-at (ltb 0 (kind_at c e c.default)) _ (both_left _ (implies (eqb (kind_at c k o) 2) (good c k e)) (on (good-true c o e g))) (lt-ltb _ _ n));
        down = λ g n. good-fact c k e (implies-at (eqb (kind_at c k o) 2) _ (both_right (implies (ltb 0 (kind_at c e c.default)) (good c o c.default)) _ (on (good-true c o e g))) (eq-eqb _ _ n));
      }

  -- the other way
  say-rules : (o e k : ℕ) → o < 8 → RulesAt o e k → rules_at c o e k ≡ true
  unfolding rules_at
  say-rules o e k lo r =
      both_true (implies (configured c.places o) (good c o o)) _
      (implies-make (configured c.places o) _ (λ a. good-true c o o (r.own (configured-fact c o lo a))))
      (implies-make (good c o e) _ (λ g.
      both_true (implies (ltb 0 (kind_at c e c.default)) (good c o c.default)) _
      (implies-make (ltb 0 (kind_at c e c.default)) _ (λ n. good-true c o c.default (r.back (good-fact c o e g) (ltb-true _ _ n))))
      (implies-make (eqb (kind_at c k o) 2) _ (λ n. good-true c k e (r.down (good-fact c o e g) (eqb-true _ _ n))))))

  -- the test at a pair, from the test of the table
  pair-at : table_formed c ≡ true → (o e : ℕ) → o < 8 → e < 8 → pair_accepted c o e ≡ true
  unfolding table_formed
  pair-at h o e lo le =
      let p : (o * 8 + e) / 8 ≡ o = omega arith in
      let q : (o * 8 + e) % 8 ≡ e = omega arith in
      let t : pair_accepted c ((o * 8 + e) / 8) ((o * 8 + e) % 8) ≡ true = all-at 64 (λ k. pair_accepted c (k / 8) (k % 8)) h (o * 8 + e) (omega arith) in
      rw (p, q) at t

  -- the rules at three classes, from the test of the table
  rules-at : table_rules c ≡ true → (o e k : ℕ) → o < 8 → e < 8 → k < 8 → RulesAt o e k
  unfolding table_rules
  rules-at h o e k lo le lk =
      let x : ℕ = o * 64 + e * 8 + k in
      let p : x / 64 ≡ o = omega arith in
      let q : x / 8 % 8 ≡ e = omega arith in
      let r : x % 8 ≡ k = omega arith in
      let t : rules_at c (x / 64) (x / 8 % 8) (x % 8) ≡ true = all-at 512 (λ x. rules_at c (x / 64) (x / 8 % 8) (x % 8)) h x (omega arith) in
      rules-say o e k (rw (p, q, r) at t)

  -- the test of the places
  walk_tree-at : places_accepted c ≡ true → (k : ℕ) → k < 8 → get_or c.places k 0 ≤ 33
  unfolding places_accepted
  walk_tree-at h k l = leb-true _ _ (all-at 8 (λ k. leb (get_or c.places k 0) 33) h k l)

  places-say : places_accepted c ≡ true → (k : ℕ) → Configured c k → locals_of c.places k ≤ 32
  unfolding locals_of
  places-say h k l = omega (arith, walk_tree-at h k l.0)

  -- the other way
  say-places : ((k : ℕ) → Configured c k → locals_of c.places k ≤ 32) → places_accepted c ≡ true
  unfolding places_accepted locals_of configured
  say-places h = all-make 8 (λ k. leb (get_or c.places k 0) 33) (λ k l. by (configured c.places k)
      (λ a. le-leb (get_or c.places k 0) 33 (omega (arith, h k (configured-fact c k l a))))
      (λ a. le-leb (get_or c.places k 0) 33 (let z : get_or c.places k 0 ≤ 0 = ltb-false _ _ a in omega arith)))

  -- in an accepted table a pair that is not Invalid has two configured classes
  pub pair-configured : AcceptedTable c → (o e : ℕ) → o < 8 → e < 8 → 0 < kind_at c o e → Configured c o × Configured c e
  pair-configured t o e lo le n = by (configured c.places o)
      (λ a. by (configured c.places e)
      (λ b. (configured-fact c o lo a, configured-fact c e le b))
      (λ b. absurd (none (λ g. unconfigured-fact c e b g.1))))
      (λ a. absurd (none (λ g. unconfigured-fact c o a g.0)))
    where
      none : (Configured c o × Configured c e → ⊥) → ⊥
      none g = let z : kind_at c o e ≡ 0 = t.invalid o e lo le g in omega arith

  -- the test of the table, and 01's rules of it
  pub table-says : both (table_formed c) (table_rules c) ≡ true → AcceptedTable c
  table-says h =
      let ht : table_formed c ≡ true = both_left (table_formed c) _ h in
      let hr : table_rules c ≡ true = both_right (table_formed c) _ h in
      record {
        formed = λ o e lo le. pair-says o e (pair-at ht o e lo le);
        invalid = λ o e lo le. pair-invalid o e lo le (pair-at ht o e lo le);
        rules = record {
          own = λ k l. (rules-at hr k k k l.0 l.0 l.0).own l;
          back = λ o e lo le. (rules-at hr o e o lo.0 le.0 lo.0).back;
          down = λ o e k lo le lk. (rules-at hr o e k lo.0 le.0 lk.0).down;
        };
      }

  -- the other way
  pub says-table : AcceptedTable c → both (table_formed c) (table_rules c) ≡ true
  unfolding table_formed table_rules
  says-table t =
      both_true (all_below 64 (λ k. pair_accepted c (k / 8) (k % 8))) _
      (all-make 64 (λ k. pair_accepted c (k / 8) (k % 8)) (λ k l.
      (let p : k / 8 < 8 = omega arith in let q : k % 8 < 8 = omega arith in
      says-pair (k / 8) (k % 8) p q (t.formed _ _ p q) (t.invalid _ _ p q))))
      (all-make 512 (λ x. rules_at c (x / 64) (x / 8 % 8) (x % 8)) (λ x l.
      (let lo : x / 64 < 8 = omega arith in let le : x / 8 % 8 < 8 = omega arith in let lk : x % 8 < 8 = omega arith in
      say-rules (x / 64) (x / 8 % 8) (x % 8) lo (at (x / 64) (x / 8 % 8) (x % 8) lo le lk))))
    where
      at : (o e k : ℕ) → o < 8 → e < 8 → k < 8 → RulesAt o e k
      at o e k lo le lk = record {
        own = t.rules.own o;
        back = λ g n. (let y = pair-configured t o e lo le (omega arith) in t.rules.back o e y.0 y.1 g n);
        down = λ g n. (let y = pair-configured t o e lo le (omega arith) in
            let x = pair-configured t k o lk lo (omega arith) in
            t.rules.down o e k y.0 y.1 x.0 g n);
      }

  -- the test passes: so 01 accepts
  pub accepted-says : accepted c ≡ true → AcceptedConfig c
  unfolding accepted frames_accepted default_accepted
  accepted-says h =
      let h1 : both (places_accepted c) (both (default_accepted c) (both (table_formed c) (table_rules c))) ≡ true = both_right (frames_accepted c) _ h in
      let h2 : both (default_accepted c) (both (table_formed c) (table_rules c)) ≡ true = both_right (places_accepted c) _ h1 in
      let hf : both (ltb 0 c.frames) (leb c.frames (1024 * tree_frames c.tree_order)) ≡ true = both_left (frames_accepted c) _ h in
      let hd : both (ltb c.default 8) (configured c.places c.default) ≡ true = both_left (default_accepted c) _ h2 in
      record {
        some = ltb-true 0 c.frames (both_left (ltb 0 c.frames) _ hf);
        most = leb-true c.frames _ (both_right (ltb 0 c.frames) _ hf);
        locals = places-say (both_left (places_accepted c) _ h1);
        default = configured-fact c c.default (ltb-true _ _ (both_left (ltb c.default 8) _ hd)) (both_right (ltb c.default 8) _ hd);
        table = table-says (both_right (default_accepted c) _ h2);
      }

  -- 01 accepts: so the test passes
  pub says-accepted : AcceptedConfig c → accepted c ≡ true
  unfolding accepted frames_accepted default_accepted
  says-accepted a =
      rw (lt-ltb 0 c.frames a.some, le-leb c.frames (1024 * tree_frames c.tree_order) a.most, say-places a.locals, lt-ltb c.default 8 a.default.0, configured-true c c.default a.default)
      (says-table a.table)

-- what follows from acceptance
module _ (c : Config) (a : AcceptedConfig c) where
  -- n is at least 1
  pub trees-some : 1 ≤ trees_of c
  trees-some = count-some c.tree_order c.frames a.some

  -- n is at most 1,024
  pub trees-most : trees_of c ≤ 1024
  trees-most = count_most c.tree_order c.frames a.most

  -- a class has at most 32 locals, configured or not
  pub locals-most : (k : ℕ) → k < 8 → locals_of c.places k ≤ 32
  unfolding locals_of configured
  locals-most k l = by (configured c.places k)
      (λ h. a.locals k (configured-fact c k l h))
      (λ h. (let z : get_or c.places k 0 ≤ 0 = ltb-false _ _ h in omega arith))

  -- a good pair has two configured classes
  pub good-configured : (o e : ℕ) → o < 8 → e < 8 → Good c o e → Configured c o × Configured c e
  good-configured o e lo le g = pair-configured c a.table o e lo le (omega arith)

  -- (k, k) is good for a configured class
  pub own-good : (k : ℕ) → Configured c k → Good c k k
  own-good = a.table.rules.own

  -- if (o, e) is good and (e, default) is not Invalid then (o, default) is good
  pub back-good : (o e : ℕ) → o < 8 → e < 8 → Good c o e → 0 < kind_at c e c.default → Good c o c.default
  back-good o e lo le g n = let y = good-configured o e lo le g in a.table.rules.back o e y.0 y.1 g n

  -- if (o, e) is good and (k, o) is Demote then (k, e) is good
  pub down-good : (o e k : ℕ) → o < 8 → e < 8 → k < 8 → Good c o e → kind_at c k o ≡ 2 → Good c k e
  down-good o e k lo le lk g n =
      let y = good-configured o e lo le g in
      let x = pair-configured c a.table k o lk lo (omega arith) in
      a.table.rules.down o e k y.0 y.1 x.0 g n
