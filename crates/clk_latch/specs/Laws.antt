-- What stays as more is seen.
use Rattle.std.specs.Prelude.{ℕ, ℤ, List, ◌++◌}
use mathlib.Core.List.{IsPrefix}
use Rattle.clk_base.specs.declared.block.Block.{Block}
use Rattle.clk_machine.specs.Plan.{Plan}
use Rattle.clk_machine.specs.Records.{IsRightReading}
use Rattle.clk_machine.specs.declared.reading.RawReading.{RawReading}
use Rattle.clk_machine.specs.declared.reading.Published.{Published}
use Rattle.clk_latch.specs.Calls.{AreDrawn}

-- a reading that is right over some records is right over more of them
abbrev pub ReadingsStayRight : Type 0
ReadingsStayRight =
    (m : Plan) (cpu : ℕ) (adjust : ℤ) (records more : List Published) (r : RawReading) → IsPrefix records more
    → IsRightReading m cpu adjust records r → IsRightReading m cpu adjust more r

-- tickets that are among some blocks are among more of them
abbrev pub DrawnTicketsStay : Type 0
DrawnTicketsStay = (before blocks after : List Block) (records : List Published) → AreDrawn blocks records → AreDrawn ((before ++ blocks) ++ after) records
