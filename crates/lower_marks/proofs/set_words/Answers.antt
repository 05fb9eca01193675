-- `lower_marks::set_words` meets its contract: n words after the other are one fill. Assumes nothing.
use Rattle.std.proofs.Common.{append-nil, ◌≡◌, List, ℕ, ◌+◌, ◌-◌, ◌≤◌, length, set, take, drop, replicate, ap, sym, ◌∙◌, arith}
use Prim.Native.Nat.{zero, suc}
use lib.Seq.{paste}
use Rattle.std.proofs.lemmas.List.{take-append-drop, length-replicate, length-take, length-drop}
use Rattle.std.proofs.lemmas.List.Edits.{fill_from_more}
use Rattle.std.proofs.lemmas.Slice.{put_mid-paste}
use Rattle.rules.specs.Lower.{set_words}
use Rattle.lower_marks.proofs.set_words.Goals as goal

one-by-one : (ws : List ℕ) (a n x : ℕ) → a + n ≤ length ws → paste ws a (replicate n x) n ≡ set_words ws a n x
one-by-one ws a zero x l = let z : a + 0 ≡ a = omega arith in rw (z, append-nil (take a ws)) (take-append-drop a ws)
one-by-one ws a (suc n) x l =
    let e : n + 1 ≡ suc n = omega arith in
    sym (rw e at (fill_from_more ws a n x (omega arith))) ∙ ap (λ (us : List ℕ). set us (a + n) x) (one-by-one ws a n x (omega arith))

pub returns : goal.returns
returns c =
    let k : length (take (c.args.at + c.args.n - c.args.at) (drop c.args.at c.args.words.now)) ≡ c.args.n = omega (arith, length-take (c.args.at + c.args.n - c.args.at) (drop c.args.at c.args.words.now), length-drop c.args.at c.args.words.now) in
    put_mid-paste _ _ _ _ (replicate c.args.n c.args.x) c.args.n (rw k at (c.fill.ensures.after (λ y e. e))) (omega arith) (sym (length-replicate _ _))
    ∙ one-by-one _ _ _ _ c.requires
