-- The arguments of the exported calls as the rules' own: a frame that is named or not, a local that is given or not. Assumes nothing.
use Rattle.std.specs.Prelude.{◌≡◌, refl, Bool, true, false, ℕ, Option, Some, None}
use Rattle.std.specs.Bool.{then_some}
use Rattle.rules.specs.declared.Request.{Request}

-- the frame that a get names, if it names one
unfoldable pub name_of : Bool → ℕ → Option ℕ
name_of true f = Some f
name_of false f = None

-- the local that a call gives, if it gives one
unfoldable pub given_of : Bool → ℕ → Option ℕ
given_of true i = Some i
given_of false i = None

-- what a get or a put asks for
abbrev pub asking : ℕ → ℕ → Bool → ℕ → Request
asking order class given local = record { order = order; class = class; local = given_of given local }

-- a frame is named, a local given, as the library's `then_some` says it
pub name-some : (b : Bool) (f : ℕ) → then_some b f ≡ name_of b f
unfolding name_of
name-some true f = refl
name-some false f = refl

pub given-some : (b : Bool) (i : ℕ) → then_some b i ≡ given_of b i
unfolding given_of
given-some true i = refl
given-some false i = refl
