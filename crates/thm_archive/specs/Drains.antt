-- What a drain of the archive leaves that answers 0: what a drain leaves that is Done. Assumes nothing.
use Rattle.std.specs.Prelude.{refl, List, ℕ, ◌^◌, ◌<◌, get_or, Ok}
use Rattle.rules.specs.declared.Header.{Header}
use Rattle.rules_calls.specs.Calls.{outcome_of}
use Rattle.rules_calls.specs.Promises.{Words}
use Rattle.llfree_c.specs.Promises.{DrainNumber}
use Rattle.thm_sequence.specs.DrainDone.{DrainLeaves}
use Rattle.thm_sequence.specs.Drains.{drain-done}

-- from any words, tree words being words of 32 bits
pub archive-drain-done : (h : Header) (pairs : List ℕ) (s e : Words) → DrainNumber h pairs s 0 e → ((t : ℕ) → get_or s.trees t 0 < 2 ^ 32) → DrainLeaves 11 h.frames s e
unfolding outcome_of
archive-drain-done h pairs s e P w = drain-done h pairs s (Ok tt) e P refl w
