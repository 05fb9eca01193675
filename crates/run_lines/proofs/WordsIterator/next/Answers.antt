use Rattle.std.proofs.Common.{◌≡◌, ℕ, add-zero, ◌≢◌, ◌-◌, ◌∷◌, take, drop, length, ap, rules, arith, ◌∙◌, refl, sym, get_or}
use Rattle.std.proofs.lemmas.List.{take_rest, get_or-drop}
use Rattle.run_lines.specs.Line.{words_of}
use Rattle.run_lines.proofs.Line.{words_skip, words_none, words_first}
use Rattle.run_lines.proofs.WordsIterator.next.Goals.{After-split_at}
use Rattle.run_lines.proofs.WordsIterator.next.Goals as goal

unlike : (c : After-split_at) → get_or c.args.self.now.0.now c.in_ok-start.start 0 ≢ 32
unlike c = search rules

-- the first word is taken from what is left
steps : (c : After-split_at) → words_of c.args.self.now.0.now ≡ c.split_at.result.0.now ∷ words_of c.split_at.result.1.now
steps c =
    let line = c.args.self.now.0.now in
    let start = c.in_ok-start.start in
    let whole : take (length line - start) (drop start line) ≡ drop start line = take_rest line start in
    let none : get_or (drop start line) 0 0 ≢ 32 = λ e. absurd (unlike c (ap (λ (k : ℕ). get_or line k 0) (sym (add-zero start)) ∙ sym (get_or-drop start line 0 0) ∙ e)) in
    let first = words_first (drop start line) (search rules) none in
    words_skip start line (search rules) ∙ first ∙ rw (c.split_at.ensures.front, c.split_at.ensures.back, c.word_end.ensures.first, whole) refl

pub returns-in_err-start-clause-steps : goal.returns-in_err-start-clause-steps
returns-in_err-start-clause-steps c =
    let none = words_none c.args.self.now.0.now (search rules) in rw c.from_residual.ensures (none, none)

pub returns-clause-steps : goal.returns-clause-steps
returns-clause-steps c = steps (goal.at.returns-clause-steps c).After-split_at

pub returns-clause-goes : goal.returns-clause-goes
returns-clause-goes c = record { on = λ _. (tt, tt, omega (arith, ap length (steps (goal.at.returns-clause-goes c).After-split_at))); keeps = tt; rests = λ _. tt }
