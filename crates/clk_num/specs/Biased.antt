-- Signed values in unsigned words: the value plus 2^62.
use Rattle.std.specs.Prelude.{◌≡◌, ℕ, ◌^◌, ℤ, pos, ◌+ℤ◌}

abbrev pub IsWordOf : ℤ → ℕ → Type 0
IsWordOf value word = pos word ≡ value +ℤ pos (2 ^ 62)
