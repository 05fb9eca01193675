-- 01, Single words (trees.rs): what a put, a steal, a reservation, its return and a sync do to an entry. Assumes nothing.
use Rattle.std.specs.Prelude.{true, false, List, ℕ, ◌+◌, ◌-◌, eqb, ltb, set, Option, Some, None}
use Rattle.rules.specs.Base.{pick, Out, out}
use Rattle.rules.specs.Words.{Config, tree_frames, tree_word, entry, entry_at}
use Rattle.rules.specs.Policy.{policy}
use Rattle.rules.specs.declared.Tree.{Tree}
use Rattle.rules.specs.declared.Kind.{Kind}
use Rattle.rules.specs.declared.Kind.TheVariants.{Invalid, Steal, Demote, Match}
use Rattle.rules.specs.declared.Taken.{Taken}

-- the default class where the tree is now full, else the class it had
unfoldable pub if_full : ℕ → ℕ → ℕ → ℕ → ℕ
if_full z d k free = pick (eqb free (tree_frames z)) d k

-- if now 2,048 and policy(entry class, default) is not Invalid, class becomes default
unfoldable pub class_after : ℕ → ℕ → ℕ → ℕ → Kind → ℕ
class_after z d k free Invalid = k
class_after z d k free Steal = if_full z d k free
class_after z d k free Demote = if_full z d k free
class_after z d k free (Match r) = if_full z d k free

-- entry put: add; then the class, reserved or not
unfoldable pub put_of : Config → Tree → ℕ → Tree
put_of c t n =
    entry (t.free + n) t.reserved
    (class_after c.tree_order c.default t.class (t.free + n) (policy c t.class c.default (t.free + n)))

-- Match and Demote set the requested class k, Steal keeps the entry's, Invalid refuses
unfoldable pub steal_kind : Tree → ℕ → ℕ → Kind → Option Tree
steal_kind t k n Invalid = None
steal_kind t k n Steal = Some (entry (t.free - n) false t.class)
steal_kind t k n Demote = Some (entry (t.free - n) false k)
steal_kind t k n (Match r) = Some (entry (t.free - n) false k)

-- steal: needs enough free and no reservation; the policy is asked with the request's frames
unfoldable pub steal_of : Config → Tree → ℕ → ℕ → Option Tree
steal_of c t k n = pick t.reserved None (pick (ltb t.free n) None (steal_kind t k n (policy c k t.class n)))

-- Match or Demote leaves (0, reserved, requested class) and yields the old free; Steal subtracts and keeps the class
unfoldable pub reserve_kind : Tree → ℕ → ℕ → Kind → Option Taken
reserve_kind t k n Invalid = None
reserve_kind t k n Steal = Some (Taken.Part (entry (t.free - n) false t.class))
reserve_kind t k n Demote = Some (Taken.Whole (entry 0 true k) t.free)
reserve_kind t k n (Match r) = Some (Taken.Whole (entry 0 true k) t.free)

-- reserve or steal: same test
unfoldable pub reserve_of : Config → Tree → ℕ → ℕ → Option Taken
reserve_of c t k n = pick t.reserved None (pick (ltb t.free n) None (reserve_kind t k n (policy c k t.class n)))

-- Match keeps the entry's class, Demote sets the holder's k; then entry put. The others are not good
unfoldable pub unreserve_kind : Config → Tree → ℕ → ℕ → Kind → Option Tree
unreserve_kind c t k n Invalid = None
unreserve_kind c t k n Steal = None
unreserve_kind c t k n Demote = Some (put_of c (entry t.free false k) n)
unreserve_kind c t k n (Match r) = Some (put_of c (entry t.free false t.class) n)

-- unreserve: the holder's class k returns its n frames to a reserved entry
unfoldable pub unreserve_of : Config → Tree → ℕ → ℕ → Option Tree
unreserve_of c t k n = pick t.reserved (unreserve_kind c t k n (policy c k t.class n)) None

-- sync: only a reserved entry with free strictly above the shortfall m; takes all of it
unfoldable pub sync_of : Tree → ℕ → Option Tree
sync_of t m = pick t.reserved (pick (ltb m t.free) (Some (entry 0 true t.class)) None) None

-- ---- the same on the lent tree words, at tree t

-- entry put at tree t
unfoldable pub entry_put : Config → List ℕ → ℕ → ℕ → List ℕ
entry_put c ts t n = set ts t (tree_word (put_of c (entry_at ts t) n))

-- a new entry is stored; a refusal leaves the words
unfoldable pub keep_took : List ℕ → ℕ → Option Tree → Out (Option Tree) (List ℕ)
keep_took ts t (Some e) = out (Some e) (set ts t (tree_word e))
keep_took ts t None = out None ts

-- steal from tree t
unfoldable pub entry_steal : Config → List ℕ → ℕ → ℕ → ℕ → Out (Option Tree) (List ℕ)
entry_steal c ts t k n = keep_took ts t (steal_of c (entry_at ts t) k n)

-- unreserve tree t
unfoldable pub entry_unreserve : Config → List ℕ → ℕ → ℕ → ℕ → Out (Option Tree) (List ℕ)
entry_unreserve c ts t k n = keep_took ts t (unreserve_of c (entry_at ts t) k n)

-- the same of a reserve or steal
unfoldable pub keep_taken : List ℕ → ℕ → Option Taken → Out (Option Taken) (List ℕ)
keep_taken ts t (Some (Taken.Part e)) = out (Some (Taken.Part e)) (set ts t (tree_word e))
keep_taken ts t (Some (Taken.Whole e n)) = out (Some (Taken.Whole e n)) (set ts t (tree_word e))
keep_taken ts t None = out None ts

-- reserve or steal tree t
unfoldable pub entry_reserve : Config → List ℕ → ℕ → ℕ → ℕ → Out (Option Taken) (List ℕ)
entry_reserve c ts t k n = keep_taken ts t (reserve_of c (entry_at ts t) k n)

-- the same of a sync: the answer is the free that the entry had
unfoldable pub keep_sync : List ℕ → ℕ → Tree → Option Tree → Out (Option ℕ) (List ℕ)
keep_sync ts t old (Some e) = out (Some old.free) (set ts t (tree_word e))
keep_sync ts t old None = out None ts

-- sync with tree t
unfoldable pub entry_sync : List ℕ → ℕ → ℕ → Out (Option ℕ) (List ℕ)
entry_sync ts t m = keep_sync ts t (entry_at ts t) (sync_of (entry_at ts t) m)
