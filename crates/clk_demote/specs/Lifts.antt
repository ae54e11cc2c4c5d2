-- The lifts of a demotion.
use Rattle.std.specs.Prelude.{ℕ, zero, suc, ℤ, List, [], ◌∷◌, ◌++◌}
use Rattle.clk_num.specs.Wrapping.{raise}
use Rattle.clk_record.specs.declared.step.Step.{Step}
use Rattle.clk_record.specs.declared.step.Why.TheVariants.{Lift}
use Rattle.clk_words.specs.declared.opening.Start.{Start}
use Rattle.clk_words.specs.declared.view.View.{View}
use Rattle.clk_words.specs.Histories.{opens_at}

-- the lift of the word w by a seat: from what the words began with it is raised to the opening of the demotion
abbrev pub lift_of : ℕ → Start → ℕ → ℤ → ℕ → Step
lift_of by start check opening w = record {
  by = by;
  call = check;
  word = w;
  why = Lift opening;
  old = opens_at start;
  new = raise (opens_at start) opening;
}

-- one for each of the first n words, in order
abbrev pub lifts_of : ℕ → Start → ℕ → ℤ → ℕ → List Step
lifts_of by start check opening zero = []
lifts_of by start check opening (suc n) = lifts_of by start check opening n ++ lift_of by start check opening n ∷ []

-- the seat has made these steps, and has seen no others since
abbrev pub lifted : List Step → View → View
lifted steps v = record v { seen = v.seen ++ steps; mine = v.mine ++ steps }
