-- The bounds test without the sum; what the functions behind a get and a put require, from the tests that refuse nothing. Assumes nothing.
use Rattle.std.specs.Prelude.{◌≡◌, true, false, List, ℕ, ◌+◌, ◌-◌, ◌^◌, ◌<◌, ◌≤◌, ltb, Option, Some, None}
use Rattle.std.proofs.Common.{arith, lt-ltb, le-ltb}
use Rattle.rules.specs.Words.{Config, config, locals_of}
use Rattle.rules.specs.Policy.{accepted}
use Rattle.rules.specs.declared.Header.{Header}
use Rattle.rules.specs.declared.Request.{Request}
use Rattle.law_rules.specs.Accepted.{accepted-says, locals-most}
use Rattle.rules_calls.specs.State.{index_of}
use Rattle.rules_calls.specs.Calls.{refusal}
use Rattle.test_fits.specs.Fits.{Fits}
use Rattle.law_calls.specs.Checked.{LocalIn, refusal-checked}

-- ---- the sum of frame f and n frames against F, without the sum

module _ (F f n : ℕ) where
  pub sum_over : F < n → ltb F (f + n) ≡ true
  sum_over l = lt-ltb F (f + n) (omega arith)

  pub sum_past : n ≤ F → F - n < f → ltb F (f + n) ≡ true
  sum_past l m = lt-ltb F (f + n) (omega arith)

  pub sum-within : n ≤ F → f ≤ F - n → ltb F (f + n) ≡ false
  sum-within l m = le-ltb F (f + n) (omega arith)

-- ---- what the functions behind a get and a put require

index-lt : (c : Config) (k : ℕ) (g : Option ℕ) → locals_of c.places k ≤ 32 → LocalIn c k g → index_of g < 2 ^ 32
unfolding index_of
index-lt c k (Some i) l b = omega arith
index-lt c k None l b = omega arith

-- a header and table that a start accepts, and arguments of which none is refused
pub checked-fits : (h : Header) (pairs : List ℕ) (q : Request) (f : ℕ) → accepted (config h pairs) ≡ true → refusal (config h pairs) q f ≡ 0 → Fits h q
checked-fits h pairs q f a e =
    let s = accepted-says (config h pairs) a in
    let k = refusal-checked (config h pairs) q f e in
    record {
      default = s.default.0;
      frames = omega arith;
      some = s.some;
      order = k.order;
      class = k.class.0;
      index = index-lt (config h pairs) q.class q.local (locals-most (config h pairs) s q.class k.class.0) k.local;
    }
