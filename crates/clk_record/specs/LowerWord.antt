-- Which of two clock words a coupling raises, and what that one held.
use Rattle.std.specs.Prelude.{ℕ, ℤ, pos, Bool, int_lt, if◌then◌else◌}
use Rattle.clk_num.specs.Wrapping.{above}

-- value is lower than other, as the sign of their difference tells
abbrev pub is_lower : ℤ → ℤ → Bool
is_lower value other = int_lt (above value other) (pos 0)

-- the word of the CPU asked where its value is lower, and else the own word, also where both are the same
abbrev pub lower_word : ℕ → ℕ → ℤ → ℤ → ℕ
lower_word cpu asked own other = if is_lower other own then asked else cpu

-- what it held, of the two values
abbrev pub lower_value : ℤ → ℤ → ℤ
lower_value own other = if is_lower other own then other else own
