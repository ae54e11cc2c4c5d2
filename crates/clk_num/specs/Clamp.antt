-- Where a local reading wants its clock word to be, and how far the raw clock went since a stamp.
use Rattle.std.specs.Prelude.{ℤ, pos, ◌+ℤ◌}
use Rattle.std.specs.Int.{int_min, int_max}
use Rattle.clk_num.specs.Wrapping.{wrap, above}

-- the clock at a stamp, and the time since that stamp, at most one tick of it
abbrev pub local_target : ℤ → ℤ → ℤ → ℤ
local_target base delta tick = wrap (base +ℤ int_min delta tick)

-- how far the raw clock went since the stamp; a raw clock that went back has not moved
abbrev pub elapsed : ℤ → ℤ → ℤ
elapsed raw tick_raw = int_max (above raw tick_raw) (pos 0)
