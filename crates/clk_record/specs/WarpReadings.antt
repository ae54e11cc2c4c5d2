-- The readings of a bring-up.
use Rattle.std.specs.Prelude.{List, flat_map}
use Rattle.clk_record.specs.declared.warp.WarpReading.{WarpReading}
use Rattle.clk_record.specs.declared.warp.WarpRun.{WarpRun}
use Rattle.clk_record.specs.declared.up.CpuUp.{CpuUp}

-- the readings of some runs, and those of some CPUs, in order
abbrev pub readings_in : List WarpRun → List WarpReading
readings_in runs = flat_map (λ run. run.readings.items) runs

abbrev pub all_readings : List CpuUp → List WarpReading
all_readings ups = flat_map (λ up. readings_in up.runs.items) ups
