-- Values whose sums stay within 64 bits.
use Rattle.std.specs.Prelude.{ℕ, ◌^◌, ℤ, pos, ◌-ℤ◌, ◌≤ℤ◌}

-- the value is within 2^bits of 0
abbrev pub IsNear : ℕ → ℤ → Type 0
IsNear bits value = ((pos 0 -ℤ pos (2 ^ bits)) ≤ℤ value) × (value ≤ℤ pos (2 ^ bits))

-- the value is from 0 to most
abbrev pub IsFrom0To : ℕ → ℤ → Type 0
IsFrom0To most value = (pos 0 ≤ℤ value) × (value ≤ℤ pos most)
