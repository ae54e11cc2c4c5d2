-- A law of remote readings that a function of this crate carries.
use Rattle.std.specs.Prelude.{◌≡◌, ℕ, ℤ}
use Rattle.clk_num.specs.Wrapping.{IsNotBelow}
use Rattle.clk_record.specs.declared.step.Step.{Step}
use Rattle.clk_local.specs.Context.{Site, Known}
use Rattle.clk_local.specs.Raising.{shown_on}
use Rattle.clk_remote.specs.Shows.{ShowsCoupling}

-- the word that a coupling stepped on holds the reading, which is below neither of the two values that were loaded
pub record ReachesBoth (own other : ℤ) (step : Step) (w : Known) : Type 0 where
  pub held : shown_on step.word w.view ≡ step.new
  pub not_below_own : IsNotBelow step.new own
  pub not_below_other : IsNotBelow step.new other

abbrev pub ReadingsReachBoth : Type 0
ReadingsReachBoth =
    (z : Site) (asked : ℕ) (v : Known) (own other : ℤ) (step : Step) (w : Known) → ShowsCoupling z asked v own other step w → ReachesBoth own other step w
