-- Clock values as Linux keeps them: 64-bit words in two's complement, of which the sign of a difference tells which is
-- later.
use Rattle.std.specs.Prelude.{◌≡◌, ℕ, ◌^◌, ℤ, pos, ◌+ℤ◌, ◌-ℤ◌, ◌≤ℤ◌, ◌<ℤ◌, int_lt, if◌then◌else◌}
use Rattle.std.specs.Int.{int_rem_euclid, cast_unsigned, cast_signed, w64}
use Rattle.std.specs.Int.RustNames.{FitsSigned}

-- a number that 64 bits keep
abbrev pub IsValue : ℤ → Type 0
IsValue n = FitsSigned w64 n

-- the value that differs from n by a multiple of 2^64
unfoldable pub wrap : ℤ → ℤ
wrap n = int_rem_euclid (n +ℤ pos (2 ^ 63)) (pos (2 ^ 64)) -ℤ pos (2 ^ 63)

-- how far value is above other; negative where it is below
abbrev pub above : ℤ → ℤ → ℤ
above value other = wrap (value -ℤ other)

-- value is not below other, as the sign of their difference tells
abbrev pub IsNotBelow : ℤ → ℤ → Type 0
IsNotBelow value other = pos 0 ≤ℤ above value other

-- value is above other
abbrev pub IsAbove : ℤ → ℤ → Type 0
IsAbove value other = pos 0 <ℤ above value other

-- a register that only rises
abbrev pub raise : ℤ → ℤ → ℤ
raise old value = if int_lt (pos 0) (above value old) then value else old

-- a value in two's complement, and back
abbrev pub bits_of : ℤ → ℕ
bits_of value = cast_unsigned w64 value

abbrev pub value_of_bits : ℕ → ℤ
value_of_bits word = cast_signed w64 word

-- the word keeps the value in two's complement
abbrev pub IsBitsOf : ℤ → ℕ → Type 0
IsBitsOf value word = value_of_bits word ≡ value
