-- Whether every frame from f to the bitmap's end is held: the rest of f's word, then whole words. Assumes nothing.
use Rattle.std.specs.Prelude.{◌≡◌, Bool, true, false, List, ℕ, ◌+◌, ◌-◌, ◌*◌, ◌/◌, ◌%◌, ◌^◌, ◌<◌, ◌≤◌, eqb, get_or, length}
use Rattle.std.proofs.Common.{sym, ap, ◌∙◌, mod-eq_of_lt, arith, shr_lt, eq-eqb, ne_eqb}
use Rattle.std.specs.Int.Count.{ones, ones-ones}
use Rattle.std.proofs.Math.Pow.{ones_split, ones_lt, high}
use Rattle.rules.specs.Lower.{held}
use Rattle.law_rules.specs.Held.{held_word, held-add, held-le}
use Rattle.law_rules.specs.Ones.{ones-every, eqb_same}
use Rattle.law_rules.specs.Run.{run_none}

-- every frame from f on is held
abbrev pub past_held : List ℕ → ℕ → Bool
past_held ws f = eqb (held ws f (length ws * 64 - f)) (length ws * 64 - f)

-- all ones, shifted
ones_shr : (s : ℕ) → s < 64 → (2 ^ 64 - 1) / 2 ^ s ≡ 2 ^ (64 - s) - 1
ones_shr s h =
    let e : (64 - s) + s ≡ 64 = omega arith in
    let a : 2 ^ ((64 - s) + s) - 1 ≡ (2 ^ (64 - s) - 1) * 2 ^ s + (2 ^ s - 1) = ones_split (64 - s) s in
    let b : 2 ^ 64 - 1 ≡ (2 ^ (64 - s) - 1) * 2 ^ s + (2 ^ s - 1) = ap (λ (x : ℕ). 2 ^ x - 1) (sym e) ∙ a in
    ap (λ (x : ℕ). x / 2 ^ s) b ∙ high (2 ^ (64 - s) - 1) s (ones_lt s)

pub past_end : (ws : List ℕ) (f : ℕ) → length ws ≤ f / 64 → true ≡ past_held ws f
past_end ws f h =
    let e : length ws * 64 - f ≡ 0 = omega arith in
    sym (eq-eqb _ _ (ap (held ws f) e ∙ run_none ws f ∙ sym e))

module _ (ws : List ℕ) (f : ℕ) (here : f / 64 < length ws) (fits : get_or ws (f / 64) 0 < 2 ^ 64) where
  -- the rest of f's word
  rest : held ws f (64 - f % 64) ≡ ones (get_or ws (f / 64) 0 / 2 ^ (f % 64))
  rest =
      let a : f / 64 * 64 + f % 64 ≡ f = omega arith in
      let b : (64 - f % 64) + f % 64 ≡ 64 = omega arith in
      let l : get_or ws (f / 64) 0 < 2 ^ ((64 - f % 64) + f % 64) = rw b fits in
      ap (λ (x : ℕ). held ws x (64 - f % 64)) (sym a) ∙ held_word ws (f / 64) (f % 64) (64 - f % 64) (omega arith)
      ∙ ap ones (mod-eq_of_lt (shr_lt (64 - f % 64) (f % 64) l))

  rest_lt : get_or ws (f / 64) 0 / 2 ^ (f % 64) < 2 ^ (64 - f % 64)
  rest_lt =
      let b : (64 - f % 64) + f % 64 ≡ 64 = omega arith in
      let l : get_or ws (f / 64) 0 < 2 ^ ((64 - f % 64) + f % 64) = rw b fits in
      shr_lt (64 - f % 64) (f % 64) l

  -- and the words after it
  parts : held ws f (length ws * 64 - f) ≡ held ws f (64 - f % 64) + held ws ((f / 64 + 1) * 64) ((length ws - (f / 64 + 1)) * 64)
  parts =
      let a : length ws * 64 - f ≡ (64 - f % 64) + (length ws - (f / 64 + 1)) * 64 = omega arith in
      let b : f + (64 - f % 64) ≡ (f / 64 + 1) * 64 = omega arith in
      ap (held ws f) a ∙ held-add ws f (64 - f % 64) _ ∙ ap (λ (x : ℕ). held ws f (64 - f % 64) + held ws x ((length ws - (f / 64 + 1)) * 64)) b

  pub past-no : (get_or ws (f / 64) 0 / 2 ^ (f % 64) ≡ (2 ^ 64 - 1) / 2 ^ (f % 64) → ⊥) → false ≡ past_held ws f
  past-no ne = sym (ne_eqb (held ws f (length ws * 64 - f)) (length ws * 64 - f) (λ z.
      let h : held ws f (64 - f % 64) ≡ 64 - f % 64 =
      omega (arith, parts, held-le ws f (64 - f % 64), held-le ws ((f / 64 + 1) * 64) ((length ws - (f / 64 + 1)) * 64)) in
      let q : get_or ws (f / 64) 0 / 2 ^ (f % 64) + 1 ≡ 2 ^ (64 - f % 64) = ones-every (64 - f % 64) _ rest_lt (sym rest ∙ h) in
      ne (omega (arith, ones_shr (f % 64) (omega arith)))))

  pub past-yes : (r : Bool) → get_or ws (f / 64) 0 / 2 ^ (f % 64) ≡ (2 ^ 64 - 1) / 2 ^ (f % 64)
      → r ≡ eqb (held ws ((f / 64 + 1) * 64) ((length ws - (f / 64 + 1)) * 64)) ((length ws - (f / 64 + 1)) * 64) → r ≡ past_held ws f
  past-yes r e q =
      let h : held ws f (64 - f % 64) ≡ 64 - f % 64 = rest ∙ ap ones (e ∙ ones_shr (f % 64) (omega arith)) ∙ ones-ones (64 - f % 64) in
      q ∙ eqb_same (held ws ((f / 64 + 1) * 64) ((length ws - (f / 64 + 1)) * 64)) ((length ws - (f / 64 + 1)) * 64) (held ws f (length ws * 64 - f)) (length ws * 64 - f) (λ z. omega (arith, parts)) (λ z. omega (arith, parts))
