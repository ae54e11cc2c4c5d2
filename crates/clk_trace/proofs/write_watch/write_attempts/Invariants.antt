use Rattle.std.proofs.Common.{take}
use Rattle.clk_base.specs.Text.{lines_from}
use Rattle.clk_trace.specs.Taking.{Takes, progress_of}
use Rattle.clk_trace.specs.WriterParts.{attempt_text}
use Rattle.clk_trace.proofs.write_watch.write_attempts.Given as goal

abbrev pub invariant-loop-attempt : goal.invariant-loop-attempt
invariant-loop-attempt g l =
    Takes
    (progress_of g.K.Sink.written g.K.Sink.faults l.fn.sink l.fn.out)
    (progress_of g.K.Sink.written g.K.Sink.faults l.sink l.out)
    (lines_from (attempt_text l.source) 0 (take l.attempt-index l.attempts))
