-- The mult and the shift that turn the cycles of one frequency into those of another.
use Rattle.std.specs.Prelude.{ℕ, ◌+◌, ◌-◌, ◌*◌, ◌/◌, ◌%◌, ◌^◌, max, Bool, ◌==◌, ◌&&◌, nat_lt, if◌then◌else◌, Option, Some, None, length}
use Rattle.std.specs.List.{filter, reduce, range_with_len}
use Rattle.std.specs.Int.Digits.{digits_of}
use Rattle.clk_num.specs.declared.rate.Rate.{Rate}
use Rattle.clk_num.specs.Masked.{mask_of}

-- how many bits the mult may have, so that its product with the cycles of maxsec seconds fits 64 bits
unfoldable pub mult_bits : ℕ → ℕ → ℕ
mult_bits from maxsec = 32 - length (digits_of 2 (maxsec * from / 2 ^ 32))

-- the mult at a shift, rounded to the nearest
abbrev pub quotient : ℕ → ℕ → ℕ → ℕ
quotient from to shift = (to * 2 ^ shift + from / 2) / from

-- at this shift the mult has no more bits than it may have
abbrev pub passes : ℕ → ℕ → ℕ → ℕ → Bool
passes from to maxsec shift = quotient from to shift / 2 ^ mult_bits from maxsec == 0

-- the greatest shift from 1 to 32 that passes, if any
unfoldable pub greatest_shift : ℕ → ℕ → ℕ → Option ℕ
greatest_shift from to maxsec = reduce max (filter (passes from to maxsec) (range_with_len 1 32))

-- where no shift passes, the mult is the low 32 bits of that at shift 1
abbrev pub rate_at : ℕ → ℕ → Option ℕ → Rate
rate_at from to None = record { mult = quotient from to 1 % 2 ^ 32; shift = 0 }
rate_at from to (Some shift) = record { mult = quotient from to shift; shift = shift }

-- the rate of that shift
abbrev pub mult_shift : ℕ → ℕ → ℕ → Rate
mult_shift from to maxsec = rate_at from to (greatest_shift from to maxsec)

-- the rate of the scheduler clock at so many Hz: the cycles of an hour are to fit
abbrev pub clock_rate : ℕ → Rate
clock_rate hz = mult_shift hz 1000000000 3600

-- how many seconds of a source's cycles are to fit: until it turns over, at least 1, and 600 for a wide one
abbrev pub max_seconds : ℕ → ℕ → ℕ
max_seconds hz bits =
    if mask_of bits / hz == 0 then 1
    else (if nat_lt 600 (mask_of bits / hz) && nat_lt (2 ^ 32 - 1) (mask_of bits) then 600 else mask_of bits / hz)

-- the rate of a source into nanoseconds
abbrev pub source_rate : ℕ → ℕ → Rate
source_rate hz bits = mult_shift hz 1000000000 (max_seconds hz bits)
