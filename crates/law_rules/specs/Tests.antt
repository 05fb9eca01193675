-- The tests of a block, over numbers: n is 2^o as the code has it. Assumes nothing.
use Rattle.std.specs.Prelude.{◌≡◌, Bool, List, ℕ, ◌+◌, ◌-◌, ◌*◌, ◌/◌, ◌%◌, ◌^◌, ◌<◌, ◌≤◌, get_or, length, eqb}
use Rattle.std.proofs.Common.{ap, ◌∙◌, mod-lt, arith, pow_pos}
use Rattle.std.proofs.Math.Pow.{pow-lt}
use Rattle.rules.specs.Lower.{held, held_in}
use Rattle.law_rules.specs.Block.{Block}
use Rattle.law_rules.specs.Power.{one_shl, whole}
use Rattle.law_rules.specs.Held.{held-part, held-large}
use Rattle.law_rules.specs.Ones.{test-none, test-every}

module _ (ws : List ℕ) (o j n : ℕ) (e : n ≡ 2 ^ o) where
  same : j * n ≡ j * 2 ^ o
  same = ap (λ (x : ℕ). j * x) e

  -- what the code asks: the product fits, the word is there, the shifts are below 64
  pub start_small : Block ws o j → j * n + 1 ≤ length ws * 64
  start_small b = omega (arith, same, b.inside, pow_pos o)

  pub shift-lt : o < 6 → n < 64
  shift-lt h = omega (arith, e, pow-lt {i = o} {j = 6} h)

  pub words-large : Block ws o j → 6 ≤ o → j * n / 64 + n / 64 ≤ length ws
  words-large b h =
      let w = whole o j h in
      let i : j * 2 ^ o + 2 ^ o ≤ length ws * 64 = b.inside in
      omega (arith, e, same, w.start, w.words)

  -- a block within a word
  module _ (r : ℕ) where
    pub free_part : o < 6 → r ≡ get_or ws (j * n / 64) 0 / 2 ^ (j * n % 64) % 2 ^ n → eqb r 0 ≡ eqb (held_in ws o j) 0
    free_part h q = rw (q, e, held-part ws o j h) (test-none (2 ^ o) _ (mod-lt _ (pow_pos (2 ^ o))))

    pub held-part-test : o < 6 → r ≡ get_or ws (j * n / 64) 0 / 2 ^ (j * n % 64) % 2 ^ n → eqb r (1 * 2 ^ n % 2 ^ 64 - 1) ≡ eqb (held_in ws o j) (2 ^ o)
    held-part-test h q = rw (one_shl n (shift-lt h), q, e, held-part ws o j h) (test-every (2 ^ o) _ (mod-lt _ (pow_pos (2 ^ o))))

  -- a block of whole words
  module _ (r : Bool) where
    pub free-large : 6 ≤ o → r ≡ eqb (held ws (j * n / 64 * 64) (n / 64 * 64)) 0 → r ≡ eqb (held_in ws o j) 0
    free-large g q = q ∙ rw (e, held-large ws o j g)

    pub held-large-test : 6 ≤ o → r ≡ eqb (held ws (j * n / 64 * 64) (n / 64 * 64)) (n / 64 * 64) → r ≡ eqb (held_in ws o j) (2 ^ o)
    held-large-test g q = q ∙ rw (e, held-large ws o j g) (ap (eqb (held ws (j * 2 ^ o / 64 * 64) (2 ^ o / 64 * 64))) (whole o j g).words)
