-- A size is not zero. Assumes nothing.
use lib.Pow.{pow_pos}
use Rattle.test_arguments.proofs.check.Goals as goal

pub nonzero_rem-frame : goal.nonzero_rem-frame
nonzero_rem-frame c = rw c.size-n.ensures.0 (pow_pos _)
