-- A block set and cleared, over numbers: n is 2^o as the code has it. Assumes nothing.
use Rattle.std.specs.Prelude.{◌≡◌, Bool, List, ℕ, ◌+◌, ◌-◌, ◌*◌, ◌/◌, ◌%◌, ◌^◌, ◌<◌, ◌≤◌, get_or, set}
use Rattle.std.proofs.Common.{sym, ◌∙◌, mod-lt, arith, pow_pos, lt-ltb, le-ltb}
use Rattle.std.proofs.Math.Pow.{pow-lt}
use Rattle.law_rules.specs.Power.{in-word}
use Rattle.rules.specs.Lower.{held_in, put_field, full, set_words, mark}
use Rattle.law_rules.specs.Held.{held-part}
use Rattle.law_rules.specs.Ones.{ones_none, ones-every}

module _ (ws : List ℕ) (o j n : ℕ) (e : n ≡ 2 ^ o) where
  abbrev pub FieldIs : ℕ → Type 0
  FieldIs f = (get_or ws (j * n / 64) 0 / 2 ^ (j * n % 64) % 2 ^ n ≡ f) × ((j * n % 64 < 64) × ((n < 64) × (j * n % 64 + n ≤ 64)))

  shifts : o < 6 → (j * n % 64 < 64) × ((n < 64) × (j * n % 64 + n ≤ 64))
  shifts h = rw e (let a = pow-lt {i = o} {j = 6} h in let b = in-word o j h in omega arith)

  pub field-free : o < 6 → held_in ws o j ≡ 0 → FieldIs 0
  field-free h z = (rw e (ones_none (2 ^ o) _ (mod-lt _ (pow_pos (2 ^ o))) (sym (held-part ws o j h) ∙ z)), shifts h)

  pub field-held : o < 6 → held_in ws o j ≡ 2 ^ o → FieldIs (2 ^ n - 1)
  field-held h z = (rw e (let q = ones-every (2 ^ o) _ (mod-lt _ (pow_pos (2 ^ o))) (sym (held-part ws o j h) ∙ z) in omega arith), shifts h)

  pub mark-part : (v : Bool) (r : ℕ) → o < 6 → r ≡ put_field (get_or ws (j * n / 64) 0) (j * n % 64) n (full v n) → set ws (j * n / 64) r ≡ mark v ws o j
  unfolding mark
  mark-part v r h q = rw (q, e) (simp (lt-ltb o 6 h))

  pub mark-large : (v : Bool) (us : List ℕ) → 6 ≤ o → us ≡ set_words ws (j * n / 64) (n / 64) (full v 64) → us ≡ mark v ws o j
  unfolding mark
  mark-large v us h q = q ∙ rw e (simp (le-ltb o 6 h))
