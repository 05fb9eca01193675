-- The rating that a policy's answer carries, and that it is a byte. Assumes nothing.
use Rattle.std.specs.Prelude.{◌≡◌, Bool, true, false, ℕ, ◌^◌, ◌<◌, ◌≤◌, eqb, leb}
use Rattle.std.proofs.Common.{arith}
use Rattle.rules.specs.Base.{pick}
use Rattle.rules.specs.Policy.{kind_of, cut_of, low_of, high_of, policy_of}
use Rattle.rules.specs.declared.Kind.{Kind}
use Rattle.rules.specs.declared.Kind.TheVariants.{Invalid, Steal, Demote, Match}

-- the rating of a Match, 0 of others
unfoldable pub rating_of : Kind → ℕ
rating_of Invalid = 0
rating_of Steal = 0
rating_of Demote = 0
rating_of (Match r) = r

-- ratings are bytes

pub small : (k : Kind) (r : ℕ) → k ≡ Match r → rating_of k ≤ 255 → r ≤ 255
unfolding rating_of
small k r e h = rw e at h

either : (t : Bool) (x y : Kind) → rating_of x ≤ 255 → rating_of y ≤ 255 → rating_of (pick t x y) ≤ 255
either true x y p q = p
either false x y p q = q

pub policy-small : (w free : ℕ) → w < 2 ^ 32 → rating_of (policy_of w free) ≤ 255
unfolding policy_of rating_of high_of low_of
policy-small w free h =
    either (eqb (kind_of w) 0) _ _ (omega arith)
    (either (eqb (kind_of w) 1) _ _ (omega arith)
    (either (eqb (kind_of w) 2) _ _ (omega arith)
    (either (leb (cut_of w) free) _ _ (omega arith) (omega arith))))
