-- The steps of a word in the order in which they were made are a chain, and their lines in the order of a history are
-- that chain again.
use Rattle.std.specs.Prelude.{◌≡◌, ℤ, List, map, ◌<ℤ◌, ◌⊎◌, All, IsPermutation, IsSorted}
use Rattle.clk_base.specs.Chains.{IsChainBy}
use Rattle.clk_num.specs.Wrapping.{IsValue, above}
use Rattle.clk_lawful.specs.WordHistory.{history_cmp}
use Rattle.clk_lawful.specs.declared.trace.HistoryStep.{HistoryStep}

-- a step of a word that opened here leaves it as it was, or higher above its opening
pub record GoesUp (opening : ℤ) (s : HistoryStep) : Type 0 where
  pub old_fits : IsValue s.old
  pub new_fits : IsValue s.new
  pub up : (s.old ≡ s.new) ⊎ (above s.old opening <ℤ above s.new opening)

-- what a line shows of its word: before and after
pub record Change : Type 0 where
  pub old : ℤ
  pub new : ℤ

abbrev pub change_of : HistoryStep → Change
change_of s = record { old = s.old; new = s.new }

abbrev pub SortedIsChain : Type 0
SortedIsChain =
    (opening : ℤ) (steps lines : List HistoryStep)
    → IsChainBy (λ s. s.old) (λ s. s.new) opening steps
    → All (GoesUp opening) steps
    → IsPermutation steps lines
    → IsSorted (history_cmp opening) lines
    → (map change_of lines ≡ map change_of steps) × IsChainBy (λ s. s.old) (λ s. s.new) opening lines
