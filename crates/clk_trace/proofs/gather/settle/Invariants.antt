use Rattle.std.specs.List.Sorted.{IsPermutation}
use Rattle.clk_trace.proofs.gather.settle.Given as goal

abbrev pub invariant-loop-place : goal.invariant-loop-place
invariant-loop-place l = IsPermutation l.initial.lines l.lines
