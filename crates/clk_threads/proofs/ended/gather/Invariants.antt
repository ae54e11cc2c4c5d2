use Rattle.std.proofs.Common.{◌+◌, ◌≤◌, length}
use Rattle.clk_threads.specs.Ending.{hands_in, HasGathered}
use Rattle.clk_threads.proofs.ended.gather.Given as goal

-- the seats of the workers so far were joined
abbrev pub invariant-loop-slot : goal.invariant-loop-slot
invariant-loop-slot l = record {
  gathered : HasGathered l.shared (hands_in l.yielded) l.fn.first l.fn.time l.initial.threads l.initial.latches l.first l.time l.threads l.latches;
  room : length l.fn.slots.items ≤ l.threads.room + length l.yielded;
  latches_room : length l.fn.slots.items ≤ l.latches.room + length l.yielded;
}
