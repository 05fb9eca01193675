-- n words from the word a on, as a slice: how many there are, and which. Assumes nothing.
use Rattle.std.specs.Prelude.{◌≡◌, List, ℕ, ◌+◌, ◌-◌, ◌<◌, ◌≤◌, length, take, drop, get_or}
use Rattle.std.proofs.Common.{◌∙◌, arith, length-drop}
use Rattle.std.proofs.lemmas.List.{get_or-take, get_or-drop, length-take}

module _ (ws : List ℕ) (a n : ℕ) where
  abbrev pub part : List ℕ
  part = take (a + n - a) (drop a ws)

  pub part-length : a + n ≤ length ws → length part ≡ n
  part-length h = omega (arith, length-take (a + n - a) (drop a ws), length-drop a ws)

  pub part-at : (i : ℕ) → i < n → get_or part i 0 ≡ get_or ws (a + i) 0
  part-at i h = get_or-take (a + n - a) (drop a ws) i 0 (omega arith) ∙ get_or-drop a ws i 0
