-- `start_body::start_body` meets its contract. Assumes nothing.
use Prim.Native.Nat.{ℕ, ◌*◌, ◌^◌, ◌<◌, ◌≤◌}
use native.Mathlib.Omega.{arith}
use Rattle.law_rules.specs.Count.{count_most}
use Rattle.rules.specs.Words.{tree_count}
use Rattle.rules_calls.specs.Calls.{fresh_state}
use Rattle.start_body.proofs.start_body.Goals as goal

-- the number of trees of so many frames, in words of the bitmap
words-few : (f : ℕ) → f ≤ 2 ^ 21 → 32 * tree_count 11 f < 2 ^ 32
words-few f l = omega (arith, count_most 11 f l)

pub fill_trees-requires : goal.fill_trees-requires
fill_trees-requires c =
    omega (arith, words-few c.args.h.frames c.requires.frames_bound, c.requires.trees_len)

pub fill_bits-requires : goal.fill_bits-requires
fill_bits-requires c =
    omega (arith, words-few c.args.h.frames c.requires.frames_bound, c.requires.bits_len)

pub returns : goal.returns
unfolding fresh_state
returns c =
    λ pairs.
    rw (
      c.fill_trees.ensures,
      c.fill_locals.ensures,
      c.fill_bits.ensures,
      c.requires.trees_len,
      c.requires.locals_len,
      c.requires.bits_len,
      c.free_at_start-f.ensures,
    )
