-- Which histories of clock words are legal.
use Rattle.std.specs.Prelude.{◌≡◌, ℕ, ℤ, not, Bool, true, false, ◌&&◌, List, ◌∷◌, map, filter, Contains}
use Rattle.std.specs.Ordering.{int_eq}
use Rattle.clk_base.specs.Chains.{IsChainBy}
use Rattle.clk_num.specs.Wrapping.{raise}
use Rattle.clk_record.specs.declared.step.Why.{Why}
use Rattle.clk_record.specs.declared.step.Why.TheVariants.{Raise, Couple, Lift}
use Rattle.clk_record.specs.Targets.{target}
use Rattle.clk_lawful.specs.Lines.{step_line}
use Rattle.clk_lawful.specs.WordHistory.{Placed, placed_on, IsHistoryOf}
use Rattle.clk_lawful.specs.declared.trace.HistoryStep.{HistoryStep}

-- ---- a single step

-- it raises its word to its target
abbrev pub ReachesTarget : ℤ → Placed → Type 0
ReachesTarget tick p = p.step.new ≡ raise p.step.old (target tick p.step.why)

-- what a word held at some moment
abbrev pub held_by : ℤ → List Placed → ℕ → List ℤ
held_by opening steps w = opening ∷ map (λ p. p.step.new) (placed_on w steps)

-- what was brought into some word by another step than a coupling, and the opening
abbrev pub is_coupling : Why → Bool
is_coupling (Raise raw tick_raw tick_gtod offset) = false
is_coupling (Couple from value) = true
is_coupling (Lift value) = false

abbrev pub brings : Placed → Bool
brings p = not (is_coupling p.step.why) && not (int_eq p.step.old p.step.new)

abbrev pub brought_by : ℤ → List Placed → List ℤ
brought_by opening steps = opening ∷ map (λ p. p.step.new) (filter brings steps)

-- a coupling names a value that the other word held, and that some word got otherwise
abbrev pub NamesSource : ℤ → List Placed → Why → Type 0
NamesSource opening steps (Raise raw tick_raw tick_gtod offset) = Unit {0}
NamesSource opening steps (Couple from value) = Contains (held_by opening steps from) value × Contains (brought_by opening steps) value
NamesSource opening steps (Lift value) = Unit {0}

-- ---- the lines of a word

-- they show its steps in order, and those are a chain from its opening; of a line's place in its thread nothing is
-- shown
pub record IsLegalHistory (opening : ℤ) (steps : List Placed) (lines : List HistoryStep) : Type 0 where
  pub ordered : List HistoryStep
  pub history : IsHistoryOf opening steps ordered
  pub printed : map step_line lines ≡ map step_line ordered
  pub chain : IsChainBy (λ s. s.old) (λ s. s.new) opening lines
