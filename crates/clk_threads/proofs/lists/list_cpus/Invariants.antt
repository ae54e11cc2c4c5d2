use Rattle.std.proofs.Common.{◌≡◌, ◌+◌, ◌≤◌, length, map, take}
use Rattle.clk_machine.specs.Plan.{threads_of}
use Rattle.clk_threads.proofs.lists.list_cpus.Given as goal

abbrev pub invariant-loop-thread : goal.invariant-loop-thread
invariant-loop-thread l = record {
  items : l.cpu_of.items ≡ map (λ t. t.0) (take l.thread (threads_of l.machine));
  room : length (threads_of l.machine) ≤ l.cpu_of.room + l.thread;
}
