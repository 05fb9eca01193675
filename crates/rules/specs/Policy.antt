-- 01, Policy table: kinds, cut and ratings, the form of a table, which tables and headers a start accepts. Assumes nothing.
use Rattle.std.specs.Prelude.{◌≡◌, Bool, true, false, ℕ, ◌+◌, ◌*◌, ◌/◌, ◌%◌, ◌^◌, ◌<◌, ◌≤◌, eqb, leb, ltb, get_or}
use Rattle.rules.specs.Base.{pick, both, all_below}
use Rattle.rules.specs.Words.{Config, tree_frames, configured}
use Rattle.rules.specs.declared.Kind.{Kind}
use Rattle.rules.specs.declared.Kind.TheVariants.{Invalid, Steal, Demote, Match}

-- for each pair (requested o, target e) a word: kind in bits 0 to 1, cut 2 to 15, low rating 16 to 23, high 24 to 31
unfoldable pub pair_of : Config → ℕ → ℕ → ℕ
pair_of c o e = get_or c.pairs (o * 8 + e) 0

-- kind Invalid 0, Steal 1, Demote 2 or Match 3
unfoldable pub kind_of : ℕ → ℕ
kind_of w = w % 4

-- a Match has a cut
unfoldable pub cut_of : ℕ → ℕ
cut_of w = w / 4 % 2 ^ 14

-- the rating where free is below the cut
unfoldable pub low_of : ℕ → ℕ
low_of w = w / 2 ^ 16 % 2 ^ 8

-- the rating where free is at least the cut: a pair is a word of 32 bits, so it is at most 255
unfoldable pub high_of : ℕ → ℕ
high_of w = w / 2 ^ 24

-- the policy's answer of a pair's word: high where the free argument is at least the cut, else low
unfoldable pub policy_of : ℕ → ℕ → Kind
policy_of w free =
    pick (eqb (kind_of w) 0) Invalid
    (pick (eqb (kind_of w) 1) Steal
    (pick (eqb (kind_of w) 2) Demote
    (pick (leb (cut_of w) free) (Match (high_of w)) (Match (low_of w)))))

-- policy(requested, target), asked with a number of free frames
unfoldable pub policy : Config → ℕ → ℕ → ℕ → Kind
policy c o e free = policy_of (pair_of c o e) free

-- the kind of a pair
unfoldable pub kind_at : Config → ℕ → ℕ → ℕ
kind_at c o e = kind_of (pair_of c o e)

-- (o, e) is good if its kind is Match or Demote
unfoldable pub good : Config → ℕ → ℕ → Bool
good c o e = leb 2 (kind_at c o e)

-- other kinds hold zeros in cut and ratings; a Match's cut is 0 to 2,048
unfoldable pub pair_formed : ℕ → ℕ → Bool
pair_formed z w = pick (eqb (kind_of w) 3) (leb (cut_of w) (tree_frames z)) (ltb w 4)

-- a pair with an unconfigured class is Invalid
unfoldable pub pair_accepted : Config → ℕ → ℕ → Bool
pair_accepted c o e =
    both (pair_formed c.tree_order (pair_of c o e))
    (pick (configured c.places o) (pick (configured c.places e) true (eqb (kind_at c o e) 0)) (eqb (kind_at c o e) 0))

-- a table of that form
unfoldable pub table_formed : Config → Bool
table_formed c = all_below 64 (λ k. pair_accepted c (k / 8) (k % 8))

-- if the first then the second
abbrev pub implies : Bool → Bool → Bool
implies true b = b
implies false b = true

-- the three rules at classes o, e, k: (o, o) is good; if (o, e) is good and (e, d) is not Invalid then (o, d) is good;
-- if (o, e) is good and (k, o) is Demote then (k, e) is good
unfoldable pub rules_at : Config → ℕ → ℕ → ℕ → Bool
rules_at c o e k =
    both (implies (configured c.places o) (good c o o))
    (implies (good c o e)
    (both (implies (ltb 0 (kind_at c e c.default)) (good c o c.default))
    (implies (eqb (kind_at c k o) 2) (good c k e))))

-- the three rules, over all classes (a pair with an unconfigured class is Invalid)
unfoldable pub table_rules : Config → Bool
table_rules c = all_below 512 (λ x. rules_at c (x / 64) (x / 8 % 8) (x % 8))

-- frames F: 1 to 2,097,152, that is 1,024 trees
unfoldable pub frames_accepted : Config → Bool
frames_accepted c = both (ltb 0 c.frames) (leb c.frames (1024 * tree_frames c.tree_order))

-- each class is unconfigured or has 0 to 32 locals
unfoldable pub places_accepted : Config → Bool
places_accepted c = all_below 8 (λ k. leb (get_or c.places k 0) 33)

-- the default is one of the classes 0 to 7, and configured
unfoldable pub default_accepted : Config → Bool
default_accepted c = both (ltb c.default 8) (configured c.places c.default)

-- header and policy table as a start accepts them
unfoldable pub accepted : Config → Bool
accepted c =
    both (frames_accepted c)
    (both (places_accepted c)
    (both (default_accepted c)
    (both (table_formed c) (table_rules c))))

-- the classes that are configured
abbrev pub Configured : Config → ℕ → Type 0
Configured c k = (k < 8) × (0 < get_or c.places k 0)

-- a good pair
abbrev pub Good : Config → ℕ → ℕ → Type 0
Good c o e = 2 ≤ kind_at c o e

-- the three rules in 01's words: over configured classes, with default d
pub record Accepts (c : Config) : Type 0 where
  -- (k, k) is good
  pub own : (k : ℕ) → Configured c k → Good c k k
  -- if (o, e) is good and (e, d) is not Invalid then (o, d) is good
  pub back : (o e : ℕ) → Configured c o → Configured c e → Good c o e → 0 < kind_at c e c.default → Good c o c.default
  -- if (o, e) is good and (k, o) is Demote then (k, e) is good
  pub down : (o e k : ℕ) → Configured c o → Configured c e → Configured c k → Good c o e → kind_at c k o ≡ 2 → Good c k e
