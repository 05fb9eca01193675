-- What the argument tests of a call have shown when its routes begin: the `requires` of the functions behind the exported ones. Assumes nothing.
use Rattle.std.specs.Prelude.{◌≡◌, ℕ, ◌^◌, ◌<◌, ◌≤◌, Option, Some}
use Rattle.std.proofs.Common.{subst}
use Rattle.rules.specs.declared.Header.{Header}
use Rattle.rules.specs.declared.Request.{Request}
use Rattle.rules_calls.specs.State.{index_of}

-- default class, frames, order, class and index are in range
pub record Fits (h : Header) (q : Request) : Type 0 where
  pub default : h.default < 8
  pub frames : h.frames ≤ 2 ^ 21
  pub some : 0 < h.frames
  pub order : q.order ≤ 11
  pub class : q.class < 8
  pub index : index_of q.local < 2 ^ 32

-- the index of a local that is given
pub given-small : (g : Option ℕ) (i : ℕ) → g ≡ Some i → index_of g < 2 ^ 32 → i < 2 ^ 32
unfolding index_of
given-small g i e h = subst (λ (x : Option ℕ). index_of x < 2 ^ 32) e h
