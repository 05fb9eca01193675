-- Both sums, over the trees and locals of the header. Assumes nothing.
use Rattle.rules_calls.specs.Statistics.{total_free, free_trees}
use Rattle.stats_totals.specs.Wholes.{entries_free, entries_whole, locals_free, locals_whole}
use Rattle.stats_totals.proofs.totals.Goals as goal

pub returns : goal.returns
unfolding total_free free_trees entries_free entries_whole locals_free locals_whole
returns c = (
  λ pairs. rw (c.entries_whole-a.ensures.0, c.locals_whole-b.ensures.0, c.tree_count.ensures.0, c.local_count.ensures.0),
  λ pairs. rw (c.entries_whole-a.ensures.1.0, c.locals_whole-b.ensures.1.0, c.tree_count.ensures.0, c.local_count.ensures.0),
)
