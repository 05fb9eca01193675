-- The standing rules over the lent words: where the lengths are exact the numbers of trees and locals are the lengths, else the state does not stand. Assumes nothing.
use Rattle.std.specs.Prelude.{◌≡◌, true, false, List, ℕ, eqb, length}
use Rattle.rules.specs.Base.{both, all_below}
use Rattle.rules.specs.Words.{Config}
use Rattle.rules.specs.Policy.{accepted}
use Rattle.rules_calls.specs.Standing.{lengths_exact, entry_stands, class_stands, apart_before, reserved_count, present_count, past_held, standing}
use Rattle.law_rules.specs.All.{both_false}
use Rattle.law_calls.specs.Tested.{lengths-say}

module _ (c : Config) (ts ls bs : List ℕ) where
  pub standing-exact : lengths_exact c ts ls bs ≡ true → standing c ts ls bs ≡
      both (accepted c)
      (both (all_below (length ts) (entry_stands c ts bs))
      (both (all_below 8 (class_stands c ts ls bs))
      (both (all_below (length ls) (apart_before c.tree_order ls))
      (both (eqb (reserved_count ts (length ts)) (present_count ls (length ls)))
      (past_held c bs)))))
  unfolding standing
  standing-exact h = let l = lengths-say c ts ls bs h in rw (h, l.tree_words, l.local_words)

  pub standing-inexact : lengths_exact c ts ls bs ≡ false → standing c ts ls bs ≡ false
  unfolding standing
  standing-inexact h = both_false (accepted c) _ (rw h)
