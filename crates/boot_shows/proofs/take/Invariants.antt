-- `boot_shows::take` meets its contract: the frames of the orders passed, and their blocks. Assumes nothing.
use mathlib.Core.Path.{◌≡◌}
use Prim.Native.Nat.{◌≤◌}
use Rattle.boot_patterns.specs.Patterns.{frames_of, above}
use Rattle.boot_shows.specs.Blocks.{HeldFrom}
use Rattle.boot_shows.proofs.take.Given as goal

abbrev pub invariant-loop-order : goal.invariant-loop-order
invariant-loop-order l = record { taken : l.held.frames ≡ above l.wanted l.order; wanted : l.wanted ≡ frames_of l.p; few : l.order ≤ 12; first : HeldFrom l.wanted l.held.first l.order }
