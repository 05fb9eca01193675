-- The numbers of document 01 with their names, in ASCII; and the parts of a line. Assumes nothing.
use Rattle.std.specs.Prelude.{◌≡◌, List, [], ◌∷◌, ◌++◌, ℕ, ◌≤◌, get_or}
use Prim.Native.String.{String}
use Rattle.std.proofs.Math.ListN.{get_or-eq_default}
use Rattle.text_bytes.specs.Text.{say}
use Rattle.text_bytes.specs.Numbers.{decimal}

-- the end of a line
abbrev pub end : List ℕ
end = 10 ∷ []

-- a text, then a number
abbrev pub field : String → ℕ → List ℕ
field name n = say name ++ decimal n

-- the numbers of document 01, each with its name
unfoldable pub names : List (List ℕ)
names =
    say "0 Done"
    ∷ say "1 Broken"
    ∷ say "2 Order"
    ∷ say "3 Bounds"
    ∷ say "4 Misaligned"
    ∷ say "5 Class"
    ∷ say "6 Local"
    ∷ say "7 Memory"
    ∷ say "8 NotHeld"
    ∷ say "9 Stuck"
    ∷ say "10 Config"
    ∷ say "11 Rows"
    ∷ []

unfoldable pub name_at : ℕ → List ℕ
name_at n = get_or names n []

-- no number from 12 on has a name
pub no_name : (n : ℕ) → 12 ≤ n → name_at n ≡ []
unfolding name_at names
no_name n h = get_or-eq_default names [] h
