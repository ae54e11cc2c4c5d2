-- How a remote reading couples two clock words: of two loaded values the lower word is raised to the other.
use Rattle.std.specs.Prelude.{ℕ, ℤ, if◌then◌else◌}
use Rattle.clk_num.specs.Wrapping.{raise}
use Rattle.clk_record.specs.declared.step.Step.{Step}
use Rattle.clk_record.specs.declared.step.Why.{Why}
use Rattle.clk_record.specs.declared.step.Why.TheVariants.{Couple}
use Rattle.clk_record.specs.LowerWord.{is_lower, lower_word}
use Rattle.clk_words.specs.declared.view.View.{View}
use Rattle.clk_words.specs.Calls.{step_of}

-- why it is raised: the other word, and what that held
abbrev pub coupling : ℕ → ℕ → ℤ → ℤ → Why
coupling cpu asked own other = if is_lower other own then Couple cpu own else Couple asked other

abbrev pub higher_value : ℤ → ℤ → ℤ
higher_value own other = if is_lower other own then own else other

-- the step that couples them, over the value that it found
abbrev pub coupling_step : View → ℕ → ℕ → ℕ → ℤ → ℤ → ℤ → Step
coupling_step v call cpu asked own other old =
    step_of v call (lower_word cpu asked own other) old (raise old (higher_value own other)) (coupling cpu asked own other)
