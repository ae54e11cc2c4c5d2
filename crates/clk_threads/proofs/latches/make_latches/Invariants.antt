use Rattle.std.proofs.Common.{◌≡◌, ◌+◌, ◌≤◌, [], length}
use Rattle.clk_machine.specs.Plan.{cpu_count, threads_of}
use Rattle.clk_threads.specs.Preparing.{HaveLatches}
use Rattle.clk_threads.proofs.latches.make_latches.Given as goal

-- the threads so far have their seats
abbrev pub invariant-loop-thread : goal.invariant-loop-thread
invariant-loop-thread l = record {
  past : cpu_count l.machine ≤ l.thread;
  seats : HaveLatches l.machine l.fn.zero l.thread l.latches;
  room : length (threads_of l.machine) ≤ l.latches.seats.room + l.thread;
  watch : (l.latches.watch.items ≡ []) × (l.watched ≤ l.latches.watch.room);
}
