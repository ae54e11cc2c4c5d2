-- What the test of one CPU leaves. No public contract cites it.
use Rattle.std.specs.Prelude.{◌≡◌, ℕ, ◌≤◌, Bool, [], Option, Some, None}
use Rattle.clk_num.specs.Listed.{Listed}
use Rattle.clk_num.specs.Range.{IsNear}
use Rattle.clk_ticket.specs.Time.{Time}
use Rattle.clk_machine.specs.declared.parts.BringUpPart.{BringUpPart}
use Rattle.clk_machine.specs.Plan.{Plan}
use Rattle.clk_record.specs.declared.warp.WarpRun.{WarpRun}
use Rattle.clk_record.specs.declared.up.CpuUp.{CpuUp}
use Rattle.clk_record.specs.BroughtUp.{most_runs, IsUp}
use Rattle.clk_record.specs.WarpReadings.{readings_in}
use Rattle.clk_warp.specs.Pairs.{DrawsFor}

-- the most runs of a CPU, none where no CPU is tested
abbrev pub runs_of : Option BringUpPart → ℕ
runs_of None = 0
runs_of (Some part) = most_runs part

-- no run, and room for so many
abbrev pub HasRoom : ℕ → Listed WarpRun → Type 0
HasRoom most runs = (runs.items ≡ []) × (most ≤ runs.room)

-- the entry of a CPU, and the tickets of its readings
pub record Brings (m : Plan) (cpu : ℕ) (test : Option BringUpPart) (failed : Bool) (before : Time) (up : CpuUp) (now : Time) : Type 0 where
  pub cpu_is : up.cpu ≡ cpu
  pub up_is : IsUp m test failed up
  pub near : IsNear 47 up.adjust
  pub draws : DrawsFor before (readings_in up.runs.items) now
