-- The test of the locals says that the tree of each present one is one of the configuration. Assumes nothing.
use Rattle.std.specs.Prelude.{◌≡◌, List, ℕ, ◌*◌, ◌^◌, ◌<◌, ◌≤◌}
use Rattle.std.proofs.Math.Path.{subst}
use Rattle.std.proofs.Math.Bool.{true}
use Rattle.std.proofs.Common.{arith}
use Rattle.std.proofs.Math.ListN.{length}
use borrow.Author.Tests.{ltb-true}
use Rattle.rules.specs.Base.{all_below}
use Rattle.rules.specs.Words.{Config, config, tree_count, trees_of, locals_of, local_count, slot, local_at}
use Rattle.rules.specs.Policy.{accepted}
use Rattle.rules.specs.declared.Header.{Header}
use Rattle.rules_calls.specs.Standing.{tree_on, lengths_exact, holder_stands, local_stands, class_stands}
use Rattle.law_rules.specs.All.{both_left, all-at}
use Rattle.law_calls.specs.Tested.{lengths-say}
use Rattle.test_lengths.specs.Exact.{frames-most}
use Rattle.test_apart.specs.Apart.{OnTrees}
use Rattle.law_rules.specs.Slots.{SlotOf, slot_of}

module _ (c : Config) (ts ls bs : List ℕ) where
  pub locals-inside : lengths_exact c ts ls bs ≡ true → all_below 8 (class_stands c ts ls bs) ≡ true
      → (j : ℕ) → j < length ls → (local_at ls j).present ≡ true → tree_on c.tree_order (local_at ls j) < trees_of c
  unfolding class_stands local_stands holder_stands
  locals-inside h e j l p =
      let n : length ls ≡ local_count c.places = (lengths-say c ts ls bs h).local_words in
      let s : SlotOf c.places j = slot_of c.places j (omega arith) in
      let f : local_stands c ts ls bs s.class (slot c.places s.class s.index) ≡ true
      = all-at (locals_of c.places s.class) _ (all-at 8 (class_stands c ts ls bs) e s.class s.class_lt) s.index s.index_lt in
      let g : local_stands c ts ls bs s.class j ≡ true = subst (λ (x : ℕ). local_stands c ts ls bs s.class x ≡ true) s.is f in
      ltb-true _ _ (both_left _ _ (rw p at g))

-- so it is below 1,024
pub inside-few : (h : Header) (pairs ts ls bs : List ℕ) → accepted (config h pairs) ≡ true → lengths_exact (config h pairs) ts ls bs ≡ true
    → all_below 8 (class_stands (config h pairs) ts ls bs) ≡ true → OnTrees 11 ls
unfolding tree_count
inside-few h pairs ts ls bs a l e j b p =
    let m : h.frames ≤ 1024 * 2 ^ 11 = frames-most (config h pairs) a in
    omega (arith, locals-inside (config h pairs) ts ls bs l e j b p)
