-- What the state test gives to what comes after it: an accepted header and table, and exact lengths. Assumes nothing.
use Rattle.std.specs.Prelude.{◌≡◌, true, List, ℕ, ◌*◌, ◌^◌, ◌<◌, ◌≤◌, eqb, length}
use Rattle.std.proofs.Common.{arith}
use borrow.Author.Tests.{eqb-true, eq-eqb}
use Rattle.rules.specs.Words.{Config, config, tree_rows, trees_of, local_count}
use Rattle.rules.specs.Policy.{accepted}
use Rattle.rules.specs.declared.Header.{Header}
use Rattle.rules_calls.specs.Standing.{standing, lengths_exact}
use Rattle.law_rules.specs.All.{both_left, both_right, both_true}
use Rattle.law_rules.specs.Accepted.{accepted-says}

-- lent lengths are exact
pub record Lengths (c : Config) (ts ls bs : List ℕ) : Type 0 where
  pub tree_words : length ts ≡ trees_of c
  pub local_words : length ls ≡ local_count c.places
  pub bit_words : length bs ≡ tree_rows c.tree_order * trees_of c

module _ (c : Config) (ts ls bs : List ℕ) where
  -- the test of the lengths says so
  pub lengths-say : lengths_exact c ts ls bs ≡ true → Lengths c ts ls bs
  unfolding lengths_exact
  lengths-say e =
      let g = both_right (eqb (length ts) (trees_of c)) _ e in
      record {
        tree_words = eqb-true _ _ (both_left (eqb (length ts) (trees_of c)) _ e);
        local_words = eqb-true _ _ (both_left (eqb (length ls) (local_count c.places)) _ g);
        bit_words = eqb-true _ _ (both_right (eqb (length ls) (local_count c.places)) _ g);
      }

  -- the other way
  pub say-lengths : Lengths c ts ls bs → lengths_exact c ts ls bs ≡ true
  unfolding lengths_exact
  say-lengths L =
      both_true (eqb (length ts) (trees_of c)) _ (eq-eqb _ _ L.tree_words)
      (both_true (eqb (length ls) (local_count c.places)) _ (eq-eqb _ _ L.local_words) (eq-eqb _ _ L.bit_words))

  -- a state that stands has an accepted header and table
  pub standing-accepted : standing c ts ls bs ≡ true → accepted c ≡ true
  unfolding standing
  standing-accepted e = both_left (accepted c) _ e

-- of a header: the default is a class, and there are at most 2^21 frames
module _ (h : Header) (pairs : List ℕ) (a : accepted (config h pairs) ≡ true) where
  pub default-small : h.default < 8
  default-small = (accepted-says (config h pairs) a).default.0

  pub frames_small : h.frames ≤ 2 ^ 21
  frames_small = let m : h.frames ≤ 1024 * 2 ^ 11 = (accepted-says (config h pairs) a).most in omega arith
