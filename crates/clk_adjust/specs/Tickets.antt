-- The tickets of a bring-up.
use Rattle.std.specs.Prelude.{ℕ, ◌-◌, ◌*◌, ℤ, List, Option, Some, None}
use Rattle.std.specs.List.{All}
use Rattle.clk_ticket.specs.Time.{Time}
use Rattle.clk_machine.specs.declared.parts.BringUpPart.{BringUpPart}
use Rattle.clk_machine.specs.Plan.{Plan, cpu_count}
use Rattle.clk_record.specs.declared.warp.WarpRun.{WarpRun}
use Rattle.clk_record.specs.BroughtUp.{most_runs, IsRunOfCpu}
use Rattle.clk_record.specs.WarpReadings.{readings_in}
use Rattle.clk_warp.specs.Run.{most_readings}
use Rattle.clk_warp.specs.Pairs.{DrawsFor}

-- the most that the test of a CPU draws, and those of all CPUs but the first
abbrev pub cpu_tickets : Plan → Option BringUpPart → ℕ
cpu_tickets m None = 0
cpu_tickets m (Some part) = most_runs part * most_readings m

abbrev pub up_tickets : Plan → ℕ
up_tickets m = (cpu_count m - 1) * cpu_tickets m m.bringup

-- a finished warp run of the machine
pub record IsMade (m : Plan) (run : WarpRun) : Type 0 where
  pub cpu : ℕ
  pub adjust : ℤ
  pub is : IsRunOfCpu m cpu adjust run

-- the tickets of the readings of some finished runs, and no others, were drawn
pub record HasDrawn (m : Plan) (before now : Time) : Type 0 where
  pub runs : List WarpRun
  pub made : All (IsMade m) runs
  pub draws : DrawsFor before (readings_in runs) now
