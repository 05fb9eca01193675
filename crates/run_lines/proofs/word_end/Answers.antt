use Rattle.std.proofs.Common.{rules, arith, sym, eq-eqb, ne_eqb, length, ◌≡◌, ◌∙◌, Option, Some, None, ℕ, refl, unwrap_or}
use Rattle.std.specs.List.{position_or_len}
use Rattle.std.proofs.lemmas.List.Sums.{position_or_len_is}
use Rattle.run_lines.specs.Line.{is_space}
use Rattle.run_lines.proofs.word_end.Goals.{After-position}
use Rattle.run_lines.proofs.word_end.Goals as goal

first : (c : After-position) (o : Option ℕ) → c.position.result ≡ o → position_or_len is_space c.args.line.now ≡ unwrap_or o (length c.args.line.now)
first c None e = position_or_len_is is_space c.args.line.now (length c.args.line.now) 0 (omega arith) (λ k l. ne_eqb _ _ (search (rules, e))) (λ l. absurd (omega (arith, l)))
first c (Some end) e = position_or_len_is is_space c.args.line.now end 0 (search (rules, e)) (λ k l. ne_eqb _ _ (search (rules, e))) (λ l. eq-eqb _ _ (search (rules, e)))

pub returns-clause-first : goal.returns-clause-first
returns-clause-first c =
    c.unwrap_or.ensures ∙ sym (first (goal.at.returns-clause-first c).After-position _ refl)
