-- Where every frame from f on is held, a wholly free block ends at f or before it. Assumes nothing.
use Rattle.std.specs.Prelude.{◌≡◌, List, ℕ, ◌+◌, ◌-◌, ◌*◌, ◌^◌, ◌<◌, ◌≤◌}
use Rattle.std.proofs.Math.Logic.{⊎_elim}
use Rattle.std.proofs.Common.{arith}
use Rattle.std.proofs.Math.ListN.{length}
use Rattle.std.proofs.Math.Pow.{pow_pos}
use Rattle.rules.specs.Lower.{held, held_in}
use Rattle.law_rules.specs.Cases.{below_or}
use Rattle.law_rules.specs.Block.{Block}
use Rattle.law_rules.specs.Run.{free-part-of, held-part-of}

module _ (ws : List ℕ) (o j f : ℕ) (b : Block ws o j) where
  -- a wholly free block ends at f or before it
  pub free-below : held_in ws o j ≡ 0 → held ws f (length ws * 64 - f) ≡ length ws * 64 - f → j * 2 ^ o + 2 ^ o ≤ f
  unfolding held_in
  free-below e p = ⊎_elim
      (λ l. absurd (
      let i : j * 2 ^ o + 2 ^ o ≤ length ws * 64 = b.inside in
      let n : 0 < 2 ^ o = pow_pos o in
      let x : held ws (j * 2 ^ o + 2 ^ o - 1) 1 ≡ 0 = free-part-of ws (j * 2 ^ o) (2 ^ o) (j * 2 ^ o + 2 ^ o - 1) 1 e (omega arith) (omega arith) in
      let y : held ws (j * 2 ^ o + 2 ^ o - 1) 1 ≡ 1 = held-part-of ws f (length ws * 64 - f) (j * 2 ^ o + 2 ^ o - 1) 1 p (omega arith) (omega arith) in
      omega arith))
      (λ l. l)
      (below_or f (j * 2 ^ o + 2 ^ o))
