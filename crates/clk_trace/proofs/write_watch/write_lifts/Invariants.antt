use Rattle.std.proofs.Common.{take}
use Rattle.clk_base.specs.Text.{lines_from}
use Rattle.clk_trace.specs.Taking.{Takes, progress_of}
use Rattle.clk_trace.specs.WriterParts.{lift_text}
use Rattle.clk_trace.proofs.write_watch.write_lifts.Given as goal

abbrev pub invariant-loop-lift : goal.invariant-loop-lift
invariant-loop-lift g l =
    Takes
    (progress_of g.K.Sink.written g.K.Sink.faults l.fn.sink l.fn.out)
    (progress_of g.K.Sink.written g.K.Sink.faults l.sink l.out)
    (lines_from lift_text 0 (take l.lift-index l.lifts))
