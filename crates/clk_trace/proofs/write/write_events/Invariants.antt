use Rattle.std.proofs.Common.{take}
use Rattle.clk_base.specs.Text.{lines_from}
use Rattle.clk_trace.specs.Taking.{Takes, progress_of}
use Rattle.clk_trace.specs.WriterParts.{event_text}
use Rattle.clk_trace.proofs.write.write_events.Given as goal

abbrev pub invariant-loop-event : goal.invariant-loop-event
invariant-loop-event g l =
    Takes
    (progress_of g.K.Sink.written g.K.Sink.faults l.fn.sink l.fn.out)
    (progress_of g.K.Sink.written g.K.Sink.faults l.sink l.out)
    (lines_from event_text 0 (take l.event-index l.events))
