use Rattle.clk_trace.specs.Taking.{progress_of}
use Rattle.clk_trace.proofs.Passing.{Passing}
use Rattle.clk_trace.proofs.write_watch.write_visits.Given as goal

abbrev pub invariant-loop-place : goal.invariant-loop-place
invariant-loop-place g l =
    Passing
    (progress_of g.K.Sink.written g.K.Sink.faults l.fn.sink l.fn.out)
    (progress_of g.K.Sink.written g.K.Sink.faults l.sink l.out)
    l.watch l.start l.used l.end l.place l.passed
