-- `start_words::bits_word_at` meets its contract. Assumes nothing.
use Rattle.std.proofs.Common.{◌≡◌, ℕ, ◌-◌, ◌*◌, ◌%◌, ◌^◌, ◌<◌, arith, pow_pos}
use Rattle.std.proofs.Math.Pow.{pow-lt}
use Rattle.rules_calls.specs.Calls.{fresh_word}
use Rattle.start_words.proofs.bits_word_at.Goals as goal

-- all ones, n places up
shifted : (n : ℕ) → n < 64 → (2 ^ 64 - 1) * 2 ^ n % 2 ^ 64 ≡ 2 ^ 64 - 2 ^ n
shifted n h =
    let l : 2 ^ n < 2 ^ 64 = pow-lt {i = n} {j = 64} h in let p : 0 < 2 ^ n = pow_pos n in
    omega arith

pub returns-then-n-lt64 : goal.returns-then-n-lt64
unfolding fresh_word
returns-then-n-lt64 c = rw (← c.share-n.ensures.0) (shifted _ c.if-n-lt64.true)

pub returns-else-n-lt64 : goal.returns-else-n-lt64
unfolding fresh_word
returns-else-n-lt64 c = let q : c.share-n.result ≡ 64 = omega arith in rw (← c.share-n.ensures.0, q)
