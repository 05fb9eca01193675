-- `start_stores::fill` meets its contract. The loop's invariant: the words passed are stored. Assumes nothing.
use Rattle.start_stores.specs.Fill.{Filled}
use Rattle.start_stores.proofs.fill.Given as goal

abbrev pub invariant-loop-word : goal.invariant-loop-word
invariant-loop-word g l = Filled 0 l.word-index l.w l.initial.word-items l.word-items
