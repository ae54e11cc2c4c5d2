use Rattle.clk_trace.proofs.Gaining.{SortedTo}
use Rattle.clk_trace.proofs.gather.sort_lists.Given as goal

abbrev pub invariant-loop-lines : goal.invariant-loop-lines
invariant-loop-lines l = SortedTo l.opening l.lines-index l.initial.lists l.lists
