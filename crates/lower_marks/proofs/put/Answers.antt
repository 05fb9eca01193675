-- `lower_marks::put` meets its contract. Assumes nothing.
use Rattle.std.proofs.Common.{◌≡◌, ◌-◌, ◌/◌, ◌%◌, ◌^◌, arith}
use Rattle.std.proofs.Math.Pow.{ones_lt}
use Rattle.law_rules.specs.Field.{mask, fill-sum, empty-sum, put-lt}
use Rattle.lower_marks.proofs.put.Goals as goal

pub overflow_add-result : goal.overflow_add-result
overflow_add-result c =
    let none : c.args.w / 2 ^ c.args.s % 2 ^ c.args.n ≡ 0 = rw c.if-held.true at c.requires.0 in
    record { fits = rw (mask c.args.s c.args.n c.requires.1.1.0 c.requires.1.1.1, fill-sum c.args.w c.args.s c.args.n none) (put-lt c.args.w c.args.s c.args.n _ (ones_lt c.args.n) 64 c.requires.1.1.1 c.ranges.w.fits) }

pub returns-then-held : goal.returns-then-held
returns-then-held c =
    let none : c.args.w / 2 ^ c.args.s % 2 ^ c.args.n ≡ 0 = rw c.if-held.true at c.requires.0 in
    rw (c.if-held.true, mask c.args.s c.args.n c.requires.1.1.0 c.requires.1.1.1) (fill-sum c.args.w c.args.s c.args.n none)

pub returns-else-held : goal.returns-else-held
returns-else-held c =
    let every : c.args.w / 2 ^ c.args.s % 2 ^ c.args.n ≡ 2 ^ c.args.n - 1 = rw c.if-held.false at c.requires.0 in
    rw (c.if-held.false, mask c.args.s c.args.n c.requires.1.1.0 c.requires.1.1.1) (omega (arith, empty-sum c.args.w c.args.s c.args.n every))
