-- The text of each answer but a get's, in ASCII. Assumes nothing.
use Rattle.std.specs.Prelude.{List, [], ◌∷◌, ◌++◌, ℕ, zero, suc, ◌+◌, ◌<◌, ◌≡◌, length, take, get_or, Result, Ok, Err, ⊤}
use Rattle.std.proofs.Common.{sym, ap, ◌∙◌, add-zero, add-one, append-nil, append_assoc, arith}
use Rattle.text_bytes.specs.Text.{say}
use Rattle.text_names.specs.Names.{end, field, name_at}
use Rattle.rules_calls.specs.declared.Tally.{Tally}
use Rattle.rules_calls.specs.declared.Totals.{Totals}
use Rattle.rules_calls.specs.Calls.{number_of, outcome_of}
use Rattle.stats_told.specs.declared.Stats.{Stats}
use Rattle.rules_calls.specs.declared.Refusal.{Refusal}

-- the answer to a start, a put or a drain
unfoldable pub outcome_text : List ℕ → Result ⊤ Refusal → List ℕ
outcome_text call o = call ++ name_at (outcome_of o) ++ end

-- a row of the statistics
unfoldable pub row_text : ℕ → Tally → List ℕ
row_text c t = field "row " c ++ field " free " t.free ++ field " alloc " t.alloc ++ field " used " t.used ++ end

-- rows, the first of which is that of class k
unfoldable pub rows_text : ℕ → List Tally → List ℕ
rows_text k [] = []
rows_text k (t ∷ ts) = row_text k t ++ rows_text (k + 1) ts

next : (k n : ℕ) (ts : List Tally) (d : Tally) → n < length ts → rows_text k (take (suc n) ts) ≡ rows_text k (take n ts) ++ row_text (k + n) (get_or ts n d)
unfolding rows_text
next k n [] d l = absurd (omega arith)
next k zero (t ∷ ts) d l = ap (λ (j : ℕ). row_text j t ++ []) (sym (add-zero k)) ∙ append-nil _
next k (suc n) (t ∷ ts) d l =
    let e : k + 1 + n ≡ k + suc n = omega arith in
    ap (λ (x : List ℕ). row_text k t ++ x) (next (k + 1) n ts d (omega arith))
    ∙ sym (append_assoc (row_text k t) (rows_text (k + 1) (take n ts)) (row_text (k + 1 + n) (get_or ts n d)))
    ∙ ap (λ (j : ℕ). (row_text k t ++ rows_text (k + 1) (take n ts)) ++ row_text j (get_or ts n d)) e

-- one row more
pub rows-next : (n : ℕ) (ts : List Tally) (d : Tally) → n < length ts → rows_text 0 (take n ts) ++ row_text n (get_or ts n d) ≡ rows_text 0 (take (n + 1) ts)
rows-next n ts d l =
    ap (λ (j : ℕ). rows_text 0 (take n ts) ++ row_text j (get_or ts n d)) (let e : n ≡ 0 + n = omega arith in e)
    ∙ sym (next 0 n ts d l) ∙ ap (λ (m : ℕ). rows_text 0 (take m ts)) (sym (add-one n))

-- the line of the number and the totals
unfoldable pub totals_text : ℕ → Totals → List ℕ
totals_text n t = say "stats " ++ name_at n ++ field " free " t.free ++ field " trees " t.trees ++ end

-- the answer to statistics: the rows follow where the call is done; refused, it has zeros
unfoldable pub stats_text : Result Stats Refusal → List ℕ
stats_text (Ok s) = totals_text 0 s.totals ++ rows_text 0 s.rows
stats_text (Err x) = totals_text (number_of x) (record { free = 0; trees = 0 })

-- the answer to a line that is no command
unfoldable pub wrong_text : ℕ → List ℕ
wrong_text n = field "? " n ++ end
