-- `word_header::first_slot` meets its contract. The loop's invariant: `first` is the sum of the locals of the classes passed. Assumes nothing.
use mathlib.Core.Path.{◌≡◌}
use Prim.Native.Nat.{◌*◌, ◌≤◌}
use Rattle.rules.specs.Base.{sum}
use Rattle.rules.specs.Words.{locals_of}
use Rattle.word_header.proofs.first_slot.Given as goal

abbrev pub invariant-loop-k : goal.invariant-loop-k
invariant-loop-k l = (l.first ≤ 255 * l.k) × (l.first ≡ sum (locals_of l.h.places) 0 l.k)
