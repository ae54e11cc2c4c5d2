-- When the sides of a warp run end, and which counter each of them reads.
use Rattle.std.specs.Prelude.{ℕ, ◌*◌, ◌/◌, ℤ, pos, Option, Some, None}
use Rattle.clk_machine.specs.Plan.{Plan, count_of}
use Rattle.clk_machine.specs.Timeouts.{timeout_of}
use Rattle.clk_machine.specs.declared.parts.BringUpPart.{BringUpPart}
use Rattle.clk_record.specs.declared.warp.Side.{Side}
use Rattle.clk_record.specs.declared.warp.Side.TheVariants.{Source, Target}
use Rattle.clk_record.specs.Falls.{Limits}

-- the timeout of both sides' loops in us: the target's
abbrev pub timeout_in : Plan → Option BringUpPart → ℕ → ℕ
timeout_in m None cpu = 0
timeout_in m (Some part) cpu = timeout_of m part cpu

abbrev pub turns_in : Option BringUpPart → ℕ
turns_in None = 0
turns_in (Some part) = count_of part.turns

abbrev pub limits_in : Plan → ℕ → Limits
limits_in m cpu = record { span = count_of m.nominal_khz * timeout_in m m.bringup cpu / 1000; turns = turns_in m.bringup }

abbrev pub cpu_of : Side → ℕ → ℕ
cpu_of Source cpu = 0
cpu_of Target cpu = cpu

abbrev pub side_adjust : Side → ℤ → ℤ
side_adjust Source adjust = pos 0
side_adjust Target adjust = adjust
