-- Counters of so many bits, and how far one went between two readings.
use Rattle.std.specs.Prelude.{ℕ, ◌+◌, ◌-◌, ◌/◌, ◌%◌, ◌^◌, nat_lt, if◌then◌else◌}

-- the greatest number of so many bits
abbrev pub mask_of : ℕ → ℕ
mask_of bits = 2 ^ bits - 1

-- what a counter of so many bits shows of a count
abbrev pub low_bits : ℕ → ℕ → ℕ
low_bits bits count = count % 2 ^ bits

-- now less last, modulo a turn of the counter; 2^64 is a whole number of turns
abbrev pub turned : ℕ → ℕ → ℕ → ℕ
turned now last bits = (now + 2 ^ 64 - last) % 2 ^ bits

-- the same, where it is at most half the mask; a counter that seems to have gone further has not moved
abbrev pub masked_delta : ℕ → ℕ → ℕ → ℕ
masked_delta now last bits =
    if nat_lt (mask_of bits / 2) (turned now last bits) then 0 else turned now last bits
