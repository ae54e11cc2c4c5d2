use Rattle.clk_trace.specs.Taking.{progress_of}
use Rattle.clk_trace.proofs.Passing.{Going}
use Rattle.clk_trace.proofs.write_watch.write_checks.Given as goal

abbrev pub invariant-loop-check : goal.invariant-loop-check
invariant-loop-check g l =
    Going l.cpus
    (progress_of g.K.Sink.written g.K.Sink.faults l.fn.sink l.fn.out)
    (progress_of g.K.Sink.written g.K.Sink.faults l.sink l.out)
    l.watch l.check l.start l.used
