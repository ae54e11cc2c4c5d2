use Rattle.std.proofs.Common.{take}
use Rattle.clk_base.specs.Text.{lines_from}
use Rattle.clk_trace.specs.Taking.{Takes, progress_of}
use Rattle.clk_trace.specs.WriterParts.{up_text}
use Rattle.clk_trace.proofs.write.write_ups.Given as goal

abbrev pub invariant-loop-up : goal.invariant-loop-up
invariant-loop-up g l =
    Takes
    (progress_of g.K.Sink.written g.K.Sink.faults l.fn.sink l.fn.out)
    (progress_of g.K.Sink.written g.K.Sink.faults l.sink l.out)
    (lines_from up_text 0 (take l.up-index l.ups))
