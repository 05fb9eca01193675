-- `lower_words::clear_in` meets its contract. Assumes nothing.
use native.Mathlib.Omega.{arith}
use mathlib.Core.Path.{◌≡◌, ap, ◌∙◌}
use Prim.Native.Nat.{ℕ, ◌*◌}
use Rattle.rules.specs.Lower.{held}
use Rattle.law_rules.specs.Clear.{clear-held}
use Rattle.lower_words.proofs.clear_in.Goals as goal

-- what is counted is the tree's held frames
count : (c : goal.After-held_words) → c.held_words.result ≡ held c.args.words.now (c.args.tree * 2048) 2048
count c = c.held_words.ensures ∙ ap (λ (x : ℕ). held c.args.words.now x 2048) (omega arith)

pub overflow_sub-result : goal.overflow_sub-result
overflow_sub-result c = omega (arith, count c, clear-held 11 c.args.words.now c.args.tree (omega arith))

pub returns : goal.returns
returns c = omega (arith, count c, clear-held 11 c.args.words.now c.args.tree (omega arith))
