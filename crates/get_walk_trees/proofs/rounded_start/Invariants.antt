-- `get_walk_trees::rounded_start`: the powers passed are below 2 × near. Assumes nothing.
use Rattle.get_walk_trees.specs.Rounded.{Passed}
use Rattle.get_walk_trees.proofs.rounded_start.Given as goal

abbrev pub invariant-loop-e : goal.invariant-loop-e
invariant-loop-e l = Passed l.n l.e
