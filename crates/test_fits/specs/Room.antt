-- Room in a count: what a route that goes on counting asks of its callers. Assumes nothing.
use Rattle.std.specs.Prelude.{ℕ, ◌+◌, ◌^◌, ◌<◌}

-- k more can be counted: with them the count is still a usize
abbrev pub Room : ℕ → ℕ → Type 0
Room k count = count + k < 2 ^ 64
