use Rattle.std.proofs.Common.{◌≤◌, length}
use Rattle.clk_trace.specs.Taking.{Passes}
use Rattle.clk_trace.proofs.out.write_all.Given as goal

abbrev pub invariant-loop-left : goal.invariant-loop-left
invariant-loop-left g l = record {
  later : g.K.Sink.faults l.fn.sink ≤ g.K.Sink.faults l.sink;
  passed : Passes (g.K.Sink.written l.fn.sink) (g.K.Sink.written l.sink) l.text l.left;
}

abbrev pub decreases-loop-left : goal.decreases-loop-left
decreases-loop-left g l = length l.left
