-- `get_own::get_local`, `get_own::top_up` meet their contracts. Assumes nothing.
use Prim.Native.Nat.{◌+◌}
use Rattle.get_own.proofs.+get_local_top_up.Given as goal

abbrev pub decreases-get_local : goal.decreases-get_local
decreases-get_local l = l.syncs + l.syncs + 1

abbrev pub decreases-top_up : goal.decreases-top_up
decreases-top_up l = l.syncs + l.syncs
