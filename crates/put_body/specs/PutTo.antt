-- The ways of the frames of a put, in the terms of the code: no local is given, the given one holds their tree, or does not. Assumes nothing.
use Rattle.std.specs.Prelude.{◌≡◌, Bool, true, false, List, ℕ, ◌/◌, Option, Some, None}
use Rattle.rules.specs.Base.{out}
use Rattle.rules.specs.Words.{Config, tree_frames, slot}
use Rattle.rules.specs.Entries.{entry_put}
use Rattle.rules.specs.Locals.{local_put}
use Rattle.rules.specs.declared.Request.{Request}
use Rattle.rules_calls.specs.State.{size, on_put, put_entry, with_trees, with_locals}
use Rattle.rules_calls.specs.Calls.{fresh, put_to}

module _ (c : Config) (q : Request) (frame : ℕ) (ts ls bs : List ℕ) {local : Option ℕ} {n : ℕ} (many : n ≡ size q) where
  pub to-entry : {us : List ℕ} → local ≡ None → us ≡ entry_put c ts (frame / tree_frames c.tree_order) n → fresh us ls bs ≡ put_to c q frame local (fresh ts ls bs)
  unfolding put_to put_entry with_trees
  to-entry given paid = rw (given, ← many, paid)

  module _ {i j : ℕ} {r : Bool} {ms : List ℕ} (given : local ≡ Some i) (place : j ≡ slot c.places q.class i)
      (asked : out r ms ≡ local_put c.tree_order ls j (frame / tree_frames c.tree_order) n) where
    pub to-local : r ≡ true → fresh ts ms bs ≡ put_to c q frame local (fresh ts ls bs)
    unfolding put_to on_put with_locals
    to-local took = rw (given, ← many, ← place, ← asked, took)

    pub past-local : {us : List ℕ} → r ≡ false → us ≡ entry_put c ts (frame / tree_frames c.tree_order) n → fresh us ms bs ≡ put_to c q frame local (fresh ts ls bs)
    unfolding put_to on_put put_entry with_trees with_locals
    past-local refused paid = rw (given, ← many, ← place, ← asked, refused, paid)
