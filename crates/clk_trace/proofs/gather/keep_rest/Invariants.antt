use Rattle.std.proofs.Common.{length, ◌-◌}
use Rattle.clk_lawful.specs.Filling.{lines_left, Keeps}
use Rattle.clk_trace.proofs.gather.keep_rest.Given as goal

abbrev pub invariant-loop-part : goal.invariant-loop-part
invariant-loop-part l = Keeps l.initial.lists l.lists (lines_left l.thread l.cpu l.first l.events) (lines_left l.thread l.cpu l.part l.events)

abbrev pub decreases-loop-part : goal.decreases-loop-part
decreases-loop-part l = length l.events - l.part
