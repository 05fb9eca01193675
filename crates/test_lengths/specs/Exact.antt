-- What the tests of header, table and lengths give to those after them: every tree of the configuration has an entry and bitmap words. Assumes nothing.
use Rattle.std.specs.Prelude.{◌≡◌, true, List, ℕ, ◌*◌, ◌≤◌, length}
use Rattle.rules.specs.Words.{Config, tree_frames, tree_rows, trees_of}
use Rattle.rules.specs.Policy.{accepted}
use Rattle.rules_calls.specs.Standing.{lengths_exact}
use Rattle.law_calls.specs.Tested.{lengths-say}
use Rattle.law_rules.specs.Accepted.{accepted-says}

-- every tree of the configuration has an entry and its bitmap words
pub record Exact (c : Config) (ts bs : List ℕ) : Type 0 where
  pub frames : c.frames ≤ 1024 * tree_frames c.tree_order
  pub entries : length ts ≡ trees_of c
  pub words : length bs ≡ tree_rows c.tree_order * trees_of c

module _ (c : Config) where
  -- an accepted header has at most the frames of 1,024 trees
  pub frames-most : accepted c ≡ true → c.frames ≤ 1024 * tree_frames c.tree_order
  frames-most h = (accepted-says c h).most

  -- the test of the lengths says those of entries and bitmap
  pub exact-says : (ts ls bs : List ℕ) → accepted c ≡ true → lengths_exact c ts ls bs ≡ true → Exact c ts bs
  exact-says ts ls bs a h = let l = lengths-say c ts ls bs h in record { frames = frames-most a; entries = l.tree_words; words = l.bit_words }
