-- What the goals of `lower_words::open_word` follow from. Assumes nothing.
use Rattle.std.proofs.Common.{◌≡◌, List, ℕ, ◌+◌, ◌-◌, ◌*◌, ◌<◌, ◌≤◌, ◌^◌, get_or, sym, ◌∙◌, arith}
use Rattle.rules.specs.Lower.{held}
use Rattle.law_rules.specs.Run.{run_none, full-more}
use Rattle.law_rules.specs.Open.{open_from, open-here, open-end}
use Rattle.lower_words.proofs.open_word.Goals as goal

-- the words from a up to i are wholly held
abbrev Full : List ℕ → ℕ → ℕ → Type 0
Full ws a i = held ws (a * 64) ((i - a) * 64) ≡ (i - a) * 64

here : (ws : List ℕ) (a n i : ℕ) → a ≤ i → i < a + n → Full ws a i → get_or ws i 0 < 2 ^ 64 → (get_or ws i 0 ≡ 2 ^ 64 - 1 → ⊥) → i ≡ open_from ws a n
here ws a n i l m e h ne =
    let q : i ≡ a + (i - a) = omega arith in q ∙ open-here ws a n (i - a) (omega arith) e (rw (sym q) h) (rw (sym q) ne)

more : (ws : List ℕ) (a i : ℕ) → a ≤ i → Full ws a i → get_or ws i 0 ≡ 2 ^ 64 - 1 → Full ws a (i + 1)
more ws a i l e z =
    let q : a + (i - a) ≡ i = omega arith in let p : i + 1 - a ≡ i - a + 1 = omega arith in rw p (full-more ws a (i - a) e (rw q z))

pub loop-i-init : goal.loop-i-init
loop-i-init c = let z : c.args.at - c.args.at ≡ 0 = omega arith in rw z (run_none c.args.words.now (c.args.at * 64))

pub returns-then-words-i : goal.returns-then-words-i
returns-then-words-i c = here _ _ _ _ c.loop-i.auto.i c.loop-i-test.true c.loop-i.invariant (c.type_inv.words c.loop-i.i).fits c.if-words-i.true

pub loop-i-preserved : goal.loop-i-preserved
loop-i-preserved c = more _ _ _ c.loop-i.auto.i c.loop-i.invariant c.if-words-i.false

pub returns : goal.returns
returns c = let q : c.loop-i.i - c.args.at ≡ c.args.n = omega arith in open-end _ _ _ (rw q at c.loop-i.invariant)
