-- What one turn of reading the words of a line leaves. Assumes nothing.
use Rattle.std.proofs.Common.{◌≡◌, ◌≢◌, ℕ, zero, suc, ◌+◌, ◌<◌, List, [], ◌∷◌, length, Bool, cond, not, get_or, take, drop, refl, sym, ap, subst, ◌∙◌, arith, ⊎_elim, eq-or-lt_of_le, eq-eqb, ne_eqb, lt-ltb, add-one, drop-cons, drop_of_length-le}
use Rattle.std.specs.List.{filter, slice_split, position_or_len}
use Rattle.std.proofs.lemmas.Bool.{cond-true}
use Rattle.std.proofs.lemmas.List.{length-take-le, take_all}
use Rattle.std.proofs.lemmas.List.Splits.{slice_split-cons_yes, slice_split_first, slice_split_none}
use Rattle.std.proofs.lemmas.List.Sums.{fails_before_first, passes_at_first, prefix_len-le-length}
use Rattle.run_lines.specs.Line.{is_space, is_word, words_of}

-- spaces before the words are none of them
pub words_skip : (n : ℕ) (line : List ℕ) → ((k : ℕ) → k < n → get_or line k 0 ≡ 32) → words_of line ≡ words_of (drop n line)
unfolding words_of
words_skip zero line h = refl
words_skip (suc n) [] h = refl
words_skip (suc n) (b ∷ bs) h =
    ap (filter is_word) (slice_split-cons_yes is_space b bs (eq-eqb b 32 (h 0 (omega arith))))
    ∙ words_skip n bs (λ k l. h (suc k) (omega (arith, l)))

-- nothing has no words
pub nothing : words_of [] ≡ []
unfolding words_of
nothing = refl

pub words_none : (line : List ℕ) → ((k : ℕ) → k < length line → get_or line k 0 ≡ 32) → words_of line ≡ []
words_none line h =
    let end : drop (length line) line ≡ [] = drop_of_length-le line (omega arith) in
    words_skip (length line) line h ∙ ap words_of end ∙ nothing

-- a part that is not empty is a word
kept : (part : List ℕ) (parts : List (List ℕ)) → 0 < length part → filter is_word (part ∷ parts) ≡ part ∷ filter is_word parts
kept part parts l = cond-true _ _ _ (lt-ltb 0 (length part) l)

-- the first word ends at a space, or at the line's end
abbrev ends : List ℕ → ℕ
ends line = position_or_len is_space line

-- a line that begins with no space begins with a word
begins : (line : List ℕ) → 0 < length line → get_or line 0 0 ≢ 32 → 0 < ends line
begins [] l h = absurd (omega (arith, l))
begins (b ∷ bs) l h =
    let some : ends (b ∷ bs) ≡ 1 + ends bs = ap (λ (t : Bool). cond (not t) (1 + ends bs) 0) (ne_eqb b 32 h) in
    omega (arith, some)

at_space : (line : List ℕ) → 0 < ends line → ends line < length line → words_of line ≡ take (ends line) line ∷ words_of (drop (ends line) line)
unfolding words_of
at_space line p l =
    let space = slice_split-cons_yes is_space (get_or line (ends line) 0) (drop (suc (ends line)) line) (passes_at_first is_space line 0 l) in
    let long : 0 < length (take (ends line) line) = omega (arith, p, l, length-take-le (ends line) line (omega (arith, l))) in
    let rest : words_of (drop (ends line) line) ≡ words_of (drop (ends line + 1) line) =
    ap words_of (drop-cons line (ends line) 0 l)
    ∙ ap (filter is_word) space
    ∙ ap (λ (k : ℕ). words_of (drop k line)) (sym (add-one (ends line))) in
    ap (filter is_word) (slice_split_first is_space line 0 l)
    ∙ kept (take (ends line) line) (slice_split is_space (drop (ends line + 1) line)) long
    ∙ ap (λ (ws : List (List ℕ)). take (ends line) line ∷ ws) (sym rest)

at_end : (line : List ℕ) → 0 < length line → length line ≡ ends line → words_of line ≡ line ∷ []
unfolding words_of
at_end line p e =
    ap (filter is_word) (slice_split_none is_space line (λ k d l. fails_before_first is_space line k d (subst (λ (j : ℕ). k < j) e l)))
    ∙ kept line [] p

pub words_first : (line : List ℕ) → 0 < length line → get_or line 0 0 ≢ 32 → words_of line ≡ take (ends line) line ∷ words_of (drop (ends line) line)
words_first line some h =
    let p = begins line some h in
    ⊎_elim
    (λ (f : ends line ≡ length line). at_end line (omega (arith, p, f)) (sym f)
    ∙ ap (λ (l : List ℕ). l ∷ []) (sym (take_all (ends line) line (omega (arith, f))))
    ∙ ap (λ (ws : List (List ℕ)). take (ends line) line ∷ ws) (sym (none_left line f)))
    (λ (l : ends line < length line). at_space line p l)
    (eq-or-lt_of_le (prefix_len-le-length _ line))
  where
    none_left : (line : List ℕ) → ends line ≡ length line → words_of (drop (ends line) line) ≡ []
    none_left line f =
        let end : drop (ends line) line ≡ [] = drop_of_length-le line (omega (arith, f)) in
        ap words_of end ∙ nothing
