use Rattle.std.proofs.Common.{[], refl}
use Rattle.clk_trace.specs.WriterParts.{reading_text}
use Rattle.clk_trace.proofs.Lining.{takes_item}
use Rattle.clk_trace.proofs.write.write_readings.Goals as goal

pub loop-reading-preserved : goal.loop-reading-preserved
loop-reading-preserved g c = takes_item _ _ _ [] reading_text c.args.readings.now c.loop-reading.reading-index _ _ c.loop-reading.invariant c.write_reading.ensures c.loop-reading-test.true refl
