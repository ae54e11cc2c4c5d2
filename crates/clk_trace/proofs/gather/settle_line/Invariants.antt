use Rattle.std.proofs.Common.{◌≤◌}
use Rattle.std.specs.List.Sorted.{IsPermutation}
use Rattle.clk_trace.proofs.gather.settle_line.Given as goal

abbrev pub invariant-loop-at : goal.invariant-loop-at
invariant-loop-at l = IsPermutation l.initial.lines l.lines × (l.at ≤ l.place)

abbrev pub decreases-loop-at : goal.decreases-loop-at
decreases-loop-at l = l.at
