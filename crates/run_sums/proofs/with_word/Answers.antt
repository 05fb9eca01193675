use Rattle.std.proofs.Common.{arith, ◌-◌}
use Rattle.run_sums.specs.Fnv.{fnv_word, fnv_byte, word-step}
use Rattle.run_sums.proofs.with_word.Goals as goal

pub loop-preserved : goal.loop-preserved
unfolding fnv_byte
loop-preserved c = let l = c.loop in grind (arith, l.invariant, word-step (c.args.n - l.counter) l.sum l.left)

pub returns : goal.returns
unfolding fnv_word
returns c = grind (arith, c.loop.invariant)
