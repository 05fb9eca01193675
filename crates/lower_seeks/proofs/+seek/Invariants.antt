-- `lower_seeks::seek` meets its contract. Assumes nothing.
use Rattle.lower_seeks.proofs.+seek.Given as goal

abbrev pub decreases-seek : goal.decreases-seek
decreases-seek l = l.order
