use Rattle.std.proofs.Common.{◌≡◌, ◌+◌, ◌≤◌, length}
use Rattle.clk_machine.specs.Plan.{threads_of}
use Rattle.clk_threads.proofs.Seating.{AreSlotsOnWay}
use Rattle.clk_threads.proofs.workers.make_workers.Given as goal

abbrev pub invariant-loop : goal.invariant-loop
invariant-loop l = record {
  way : AreSlotsOnWay l.machine l.adjusts.items l.sched_offset l.initial.seats l.seats l.slots.items;
  count : length l.slots.items ≡ l.counter;
  room : length (threads_of l.machine) ≤ l.slots.room + l.counter;
}
