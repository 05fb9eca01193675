-- `word_sizes::size` meets its contract. Assumes nothing.
use Rattle.law_rules.specs.Power.{at-most, one_shl}
use native.Mathlib.Omega.{arith}
use Rattle.word_sizes.proofs.size.Goals as goal

pub returns : goal.returns
returns c =
    let e = one_shl c.args.order (omega arith) in
    let p = at-most c.args.order 18 c.requires in (e, omega (arith, p.1, e))
