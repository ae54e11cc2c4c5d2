use Rattle.std.proofs.Common.{◌≡◌, ◌+◌, ◌≤◌, length, map, take}
use Rattle.clk_machine.specs.Plan.{threads_of}
use Rattle.clk_threads.specs.Preparing.{no_events}
use Rattle.clk_threads.proofs.lists.fill_events.Given as goal

abbrev pub invariant-loop-thread : goal.invariant-loop-thread
invariant-loop-thread l = record {
  items : l.events.items ≡ map no_events (take l.thread (threads_of l.machine));
  room : length (threads_of l.machine) ≤ l.events.room + l.thread;
}
