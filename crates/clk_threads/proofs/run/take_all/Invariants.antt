use Rattle.std.proofs.Common.{◌≡◌, ◌+◌, ◌≤◌, length}
use Rattle.clk_threads.proofs.Halfway.{HalfTaken}
use Rattle.clk_threads.proofs.run.take_all.Given as goal

-- those of the threads so far were taken
abbrev pub invariant-loop-thread : goal.invariant-loop-thread
invariant-loop-thread l = record {
  half : HalfTaken l.initial.parts l.parts l.workers.items;
  count : length l.workers.items ≡ l.thread;
  room : length l.initial.parts.slots ≤ l.workers.room + l.thread;
}
