-- Statistics by value: what the call answers, with the eight rows; and that this is the definition. Assumes nothing.
use Rattle.std.specs.Prelude.{◌≡◌, refl, Bool, List, ℕ, eqb, length, Result, Ok, Err}
use Rattle.std.proofs.Common.{subst, sym, ◌∙◌, arith}
use Rattle.std.proofs.Math.Bool.{true, false}
use Rattle.std.proofs.Math.Dec.{eqb→eq, T}
use Rattle.rules.specs.Base.{ifte}
use Rattle.rules.specs.Words.{Config}
use Rattle.rules_calls.specs.declared.Refusal.{Refusal}
use Rattle.rules_calls.specs.declared.Tally.{Tally}
use Rattle.rules_calls.specs.Calls.{number_of}
use Rattle.rules_calls.specs.Standing.{standing}
use Rattle.rules_calls.specs.Statistics.{tallies, total_free, free_trees, Report, reporting, told_totals, statistics}
use Rattle.stats_told.specs.declared.Stats.{Stats}

-- Broken, then Rows where not eight rows are lent
unfoldable pub stats_of : Config → List ℕ → List ℕ → List ℕ → ℕ → Result Stats Refusal
stats_of c ts ls bs n =
    ifte (standing c ts ls bs)
    (λ _. ifte (eqb n 8)
    (λ _. Ok (record { totals = record { free = total_free c ts ls; trees = free_trees c ts ls }; rows = tallies c ts ls 0 8 }))
    (λ _. Err Refusal.Rows))
    (λ _. Err Refusal.Broken)

-- what is told of it where `rows` are lent
abbrev report : Result Stats Refusal → List Tally → Report
report (Ok s) rows = told_totals (Ok s.totals) s.rows
report (Err x) rows = told_totals (Err x) rows

module _ (c : Config) (ts ls bs : List ℕ) (rows : List Tally) where
  -- by how the tests come out
  told-by : (s e : Bool) → standing c ts ls bs ≡ s → eqb (length rows) 8 ≡ e → report (stats_of c ts ls bs (length rows)) rows ≡ statistics c ts ls bs rows
  unfolding stats_of statistics ifte number_of
  told-by true true p q = rw (p, q)
  told-by true false p q = rw (p, q)
  told-by false e p q = rw p

  module _ {r : Result Stats Refusal} (of : r ≡ stats_of c ts ls bs (length rows)) where
    told-is : report r rows ≡ statistics c ts ls bs rows
    told-is = subst (λ (x : Result Stats Refusal). report x rows ≡ statistics c ts ls bs rows) (sym of) (told-by _ _ refl refl)

    -- a refusal leaves the rows
    pub kept : {x : Refusal} → r ≡ Err x → told_totals (Err x) rows ≡ statistics c ts ls bs rows
    kept e = subst (λ (y : Result Stats Refusal). report y rows ≡ statistics c ts ls bs rows) e told-is

    -- a call that is done fills them
    pub filled : {s : Stats} → r ≡ Ok s → told_totals (Ok s.totals) s.rows ≡ statistics c ts ls bs rows
    filled e = subst (λ (y : Result Stats Refusal). report y rows ≡ statistics c ts ls bs rows) e told-is

  full-by : (s e : Bool) → standing c ts ls bs ≡ s → eqb (length rows) 8 ≡ e → {a : Stats} → Ok a ≡ stats_of c ts ls bs (length rows) → length rows ≡ 8
  unfolding stats_of ifte
  full-by true true p q h = eqb→eq (length rows) 8 (subst T (sym q) tt)
  full-by true false p q h = absurd (let d = rw (p, q) at h in let z : ◌≡◌ {A = ℕ} 0 1 = cc in omega arith)
  full-by false e p q h = absurd (let d = rw p at h in let z : ◌≡◌ {A = ℕ} 0 1 = cc in omega arith)

  -- so eight rows are lent
  pub full : {r : Result Stats Refusal} {s : Stats} → r ≡ stats_of c ts ls bs (length rows) → r ≡ Ok s → length rows ≡ 8
  full of e = full-by _ _ refl refl (sym e ∙ of)

  -- the rows of a call that is done
  Eight : Result Stats Refusal → Type 0
  Eight (Ok s) = length s.rows ≡ 8
  Eight (Err x) = Unit {0}

  eight-by : (s : Bool) (n : ℕ) (e : Bool) → standing c ts ls bs ≡ s → eqb n 8 ≡ e → Eight (stats_of c ts ls bs n)
  unfolding stats_of ifte tallies Eight
  eight-by true n true p q = rw (p, q) refl
  eight-by true n false p q = rw (p, q) tt
  eight-by false n e p q = rw p tt

  -- are eight
  pub eight : {r : Result Stats Refusal} {s : Stats} (n : ℕ) → r ≡ stats_of c ts ls bs n → r ≡ Ok s → length s.rows ≡ 8
  unfolding Eight
  eight n of e = subst Eight e (subst Eight (sym of) (eight-by _ n _ refl refl))
