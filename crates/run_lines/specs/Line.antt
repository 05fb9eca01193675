-- The words of a line: its parts between spaces, but the empty ones. Assumes nothing.
use Rattle.std.specs.Prelude.{◌≡◌, ◌⊎◌, ◌∷◌, [], take, drop, ◌==◌, ℕ, Bool, nat_lt, List, length}
use Rattle.std.specs.List.{filter, slice_split}
use Rattle.std.specs.Str.Parse.{IsNumeral, digits_value}

abbrev pub is_space : ℕ → Bool
is_space b = b == 32

abbrev pub is_word : List ℕ → Bool
is_word part = nat_lt 0 (length part)

unfoldable pub words_of : List ℕ → List (List ℕ)
words_of line = filter is_word (slice_split is_space line)

-- n, in digits of a base, one or more
abbrev pub IsInDigits : ℕ → List ℕ → ℕ → Type 0
IsInDigits base digits n = IsNumeral base digits × (n ≡ digits_value base digits)

-- the word is n in decimal digits, or in hexadecimal ones after `0x`
abbrev pub IsNumber : List ℕ → ℕ → Type 0
IsNumber word n = IsInDigits 10 word n ⊎ ((take 2 word ≡ 48 ∷ 120 ∷ []) × IsInDigits 16 (drop 2 word) n)
