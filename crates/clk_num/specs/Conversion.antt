-- Cycles as nanoseconds.
use Rattle.std.specs.Prelude.{ℕ, ◌-◌, ◌*◌, ◌/◌, ◌^◌, min}
use Rattle.clk_num.specs.declared.rate.Rate.{Rate}

-- the ns of so many cycles, rounded down
abbrev pub convert : ℕ → Rate → ℕ
convert cyc rate = cyc * rate.mult / 2 ^ rate.shift

-- the most cycles that a counter with this mask shows and whose product with the mult fits 64 bits
abbrev pub max_cycles : Rate → ℕ → ℕ
max_cycles rate mask = min ((2 ^ 64 - 1) / rate.mult) mask

-- half of their ns, rounded down: how long a reader may wait before the next reading
abbrev pub wrap_time : Rate → ℕ → ℕ
wrap_time rate mask = convert (max_cycles rate mask) rate / 2
