-- `lower_rows::first_block` meets its contract. Assumes nothing.
use mathlib.Core.Path.{ap, sym, ◌∙◌}
use Prim.Native.Nat.{ℕ, ◌/◌, ◌^◌}
use borrow.Author.Rules.{rules}
use Rattle.law_rules.specs.LowestClear.{clear-block, clear_first}
use Rattle.lower_rows.proofs.first_block.Goals as goal

pub word_free-requires : goal.word_free-requires
word_free-requires c =
    let e = c.lowest_clear-bit.ensures in
    let v = c.args.want in
    (c.requires, clear-block c.args.w (search rules) v c.requires (rw e at c.if-bit-lt64.true) _ (ap (λ (x : ℕ). x / 2 ^ v) e))

pub returns-then-word_free : goal.returns-then-word_free
returns-then-word_free c =
    let e = c.lowest_clear-bit.ensures in
    let v = c.args.want in
    clear_first c.args.w (search rules) v c.requires (rw e at c.if-bit-lt64.true) _ (ap (λ (x : ℕ). x / 2 ^ v) e)
    (sym c.word_free.ensures ∙ c.if-word_free.true)
