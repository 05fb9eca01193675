-- `test_state::stands`: what each test gives to those after it, and that they are the standing rules. Assumes nothing.
use mathlib.Core.Path.{◌≡◌, sym, ◌∙◌}
use mathlib.Core.Bool.{true}
use native.Mathlib.Omega.{arith}
use Rattle.std.proofs.lemmas.Bool.Decides.{nat_tests}
use Rattle.rules.specs.Words.{config}
use Rattle.rules.specs.Base.{all_below}
use Rattle.rules.specs.Policy.{accepted}
use Rattle.rules_calls.specs.Standing.{lengths_exact, class_stands, past_held}
use Rattle.test_lengths.specs.Exact.{frames-most, exact-says}
use Rattle.test_state.specs.Inside.{inside-few}
use Rattle.test_state.proofs.Lengths.{standing-exact, standing-inexact}
use Rattle.test_state.proofs.stands.Goals as goal

pub lengths_exact-requires : goal.lengths_exact-requires
lengths_exact-requires c = frames-most _ (sym c.accepts.ensures ∙ c.if-accepts.true)

pub entries_stand-requires : goal.entries_stand-requires
entries_stand-requires c =
    let x = config c.args.h c.args.table.now in
    let a : accepted x ≡ true = grind arith in
    let l : lengths_exact x c.args.trees.now c.args.locals.now c.args.bits.now ≡ true = grind arith in
    let e = exact-says _ _ _ _ a l in
    omega (arith, e.entries, e.words)

pub locals_stand-requires : goal.locals_stand-requires
locals_stand-requires c =
    let x = config c.args.h c.args.table.now in
    let a : accepted x ≡ true = grind arith in
    let l : lengths_exact x c.args.trees.now c.args.locals.now c.args.bits.now ≡ true = grind arith in
    exact-says _ _ _ _ a l

pub apart-requires : goal.apart-requires
apart-requires c =
    let x = config c.args.h c.args.table.now in
    let a : accepted x ≡ true = grind arith in
    let l : lengths_exact x c.args.trees.now c.args.locals.now c.args.bits.now ≡ true = grind arith in
    let s : all_below 8 (class_stands x c.args.trees.now c.args.locals.now c.args.bits.now) ≡ true = grind arith in
    inside-few _ _ _ _ _ a l s

pub returns-then-reserved_count-present_count : goal.returns-then-reserved_count-present_count
unfolding past_held
returns-then-reserved_count-present_count c = grind (arith, nat_tests, standing-exact, standing-inexact)

pub returns-else-reserved_count-present_count : goal.returns-else-reserved_count-present_count
returns-else-reserved_count-present_count c = grind (arith, nat_tests, standing-exact, standing-inexact)
