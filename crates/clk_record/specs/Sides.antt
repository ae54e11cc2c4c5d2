-- The readings of each side.
use Rattle.std.specs.Prelude.{ℕ, Bool, true, false, not, List, [], ◌∷◌, filter, fold, Option, Some, None, if◌then◌else◌}
use Rattle.clk_record.specs.declared.warp.Side.{Side}
use Rattle.clk_record.specs.declared.warp.Side.TheVariants.{Source, Target}
use Rattle.clk_record.specs.declared.warp.WarpReading.{WarpReading}

abbrev pub is_same : Side → Side → Bool
is_same Source Source = true
is_same Source Target = false
is_same Target Source = false
is_same Target Target = true

abbrev pub other_side : Side → Side
other_side Source = Target
other_side Target = Source

-- the readings of one side, and those that are no start readings
abbrev pub of_side : Side → List WarpReading → List WarpReading
of_side side rs = filter (λ r. is_same side r.side) rs

abbrev pub turns_of : List WarpReading → List WarpReading
turns_of rs = filter (λ r. not r.start) rs

-- the counter at the first and at the last of some readings, and 0 where there are none
abbrev pub first_tsc : List WarpReading → ℕ
first_tsc [] = 0
first_tsc (r ∷ rs) = r.tsc

abbrev pub last_tsc : List WarpReading → ℕ
last_tsc rs = fold (λ last r. r.tsc) 0 rs

-- 1 where there was a fall and it was on the other side
abbrev pub one_if_changed : Option Side → Side → ℕ
one_if_changed None side = 0
one_if_changed (Some before) side = if is_same before side then 0 else 1
