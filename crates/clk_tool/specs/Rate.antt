-- What `rate` writes.
use Rattle.std.specs.Prelude.{ℕ, List, [], ◌∷◌, ◌++◌, codes, decimal}
use Rattle.clk_base.specs.Text.{line}
use Rattle.clk_num.specs.declared.rate.Rate.{Rate}
use Rattle.clk_num.specs.Rates.{clock_rate}
use Rattle.clk_num.specs.Conversion.{wrap_time}
use Rattle.clk_num.specs.Masked.{mask_of}

-- the lines of a rate, over a counter with this mask
abbrev pub rate_lines : Rate → ℕ → List ℕ
rate_lines rate mask =
    line (codes "mult" ∷ decimal rate.mult ∷ [])
    ++ line (codes "shift" ∷ decimal rate.shift ∷ [])
    ++ line (codes "wrap" ∷ decimal (wrap_time rate mask) ∷ [])

-- the lines of the scheduler clock's rate, over a counter of so many bits
unfoldable pub rate_text : ℕ → ℕ → List ℕ
rate_text hz bits = rate_lines (clock_rate hz) (mask_of bits)
