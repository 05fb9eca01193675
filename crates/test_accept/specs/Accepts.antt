-- The six ways through the acceptance test: whether places fit, `p`, and whether the default is configured, `d`. Assumes nothing.
use Rattle.std.specs.Prelude.{◌≡◌, Bool, true, false, List, ℕ, ◌<◌, ◌≤◌}
use Rattle.std.proofs.Math.Path.{sym}
use Rattle.std.proofs.Common.{◌∙◌}
use native.Mathlib.Omega.{arith}
use borrow.Author.Tests.{le-ltb, lt-ltb, le-leb, lt-leb}
use Rattle.rules.specs.Base.{all_below}
use Rattle.rules.specs.Words.{config, configured}
use Rattle.rules.specs.Policy.{accepted, frames_accepted, places_accepted, default_accepted}
use Rattle.rules.specs.declared.Header.{Header}
use Rattle.law_rules.specs.Rows.{place_fits, row_accepted, table-rows}

module _ (h : Header) (table : List ℕ) where
  pub no-frame : h.frames < 1 → false ≡ accepted (config h table)
  unfolding accepted frames_accepted
  no-frame f = let z : h.frames ≤ 0 = omega arith in rw (le-ltb _ _ z)

  module _ (some : 1 ≤ h.frames) where
    pub too_many : 2097152 < h.frames → false ≡ accepted (config h table)
    unfolding accepted frames_accepted
    too_many f = rw (lt-ltb _ _ some, lt-leb _ _ f)

    module _ (most : h.frames ≤ 2097152) {p : Bool} (places : p ≡ all_below 8 (place_fits h.places)) where
      pub misfit : p ≡ false → false ≡ accepted (config h table)
      unfolding accepted frames_accepted places_accepted
      misfit e = rw (lt-ltb _ _ some, le-leb _ _ most, ← places, e)

      module _ (fit : p ≡ true) where
        pub no-class : 8 ≤ h.default → false ≡ accepted (config h table)
        unfolding accepted frames_accepted places_accepted default_accepted
        no-class past = rw (lt-ltb _ _ some, le-leb _ _ most, ← places, fit, le-ltb _ _ past)

        module _ (class : h.default < 8) {d : Bool} (default : d ≡ configured h.places h.default) where
          pub unconfigured : d ≡ false → false ≡ accepted (config h table)
          unfolding accepted frames_accepted places_accepted default_accepted
          unconfigured e = rw (lt-ltb _ _ some, le-leb _ _ most, ← places, fit, lt-ltb _ _ class, ← default, e)

          -- the rows decide
          pub by_rows : d ≡ true → {r : Bool} → r ≡ all_below 8 (row_accepted (config h table)) → r ≡ accepted (config h table)
          unfolding accepted frames_accepted places_accepted default_accepted
          by_rows e rows = rw (lt-ltb _ _ some, le-leb _ _ most, ← places, fit, lt-ltb _ _ class, ← default, e) (rows ∙ sym (table-rows _))
