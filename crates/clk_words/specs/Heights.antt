-- What the clock words keep: how far a value is above the opening, which does not wrap while the value is in range.
use Rattle.std.specs.Prelude.{ℕ, ℤ}
use Rattle.clk_num.specs.Biased.{IsWordOf}
use Rattle.clk_num.specs.Wrapping.{above}
use Rattle.clk_words.specs.declared.opening.Start.{Start}
use Rattle.clk_words.specs.Histories.{opens_at}

abbrev pub height : Start → ℤ → ℤ
height start x = above x (opens_at start)

-- the word keeps the clock value x
abbrev pub IsClockWord : Start → ℤ → ℕ → Type 0
IsClockWord start x word = IsWordOf (height start x) word
