-- `get_rating::rated_of` meets its contract: a rating is a byte, since a pair is a u32. Assumes nothing.
use borrow.Author.Rules.{rules}
use Rattle.get_rating.specs.Rating.{policy-small}
use Rattle.get_rating.proofs.rated_of.Goals as goal

pub rated_in-requires : goal.rated_in-requires
rated_in-requires c = rw c.policy_of-kind.ensures (policy-small _ _ (search rules))

pub returns : goal.returns
returns c = (rw (← c.policy_of-kind.ensures) c.rated_in.ensures.0, search rules)
