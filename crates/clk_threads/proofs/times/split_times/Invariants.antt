use Rattle.std.proofs.Common.{◌≡◌, ◌+◌, ◌≤◌, length, map, take}
use Rattle.std.specs.List.{sum_by}
use Rattle.clk_ticket.specs.Time.{without}
use Rattle.clk_machine.specs.Plan.{threads_of}
use Rattle.clk_threads.specs.Preparing.{thread_tickets, time_seat}
use Rattle.clk_threads.proofs.times.split_times.Given as goal

-- the threads so far have their tickets
abbrev pub invariant-loop-thread : goal.invariant-loop-thread
invariant-loop-thread l = record {
  seats : l.times.items ≡ map (time_seat l.initial.time) (take l.thread (threads_of l.machine));
  time : l.time ≡ without (sum_by thread_tickets (take l.thread (threads_of l.machine))) l.initial.time;
  room : length (threads_of l.machine) ≤ l.times.room + l.thread;
}
