use Rattle.std.proofs.Common.{◌≡◌, ◌+◌, length}
use Rattle.clk_machine.specs.Plan.{threads_of}
use Rattle.clk_threads.proofs.Latching.{HaveJoined}
use Rattle.clk_threads.proofs.joins.join_latches.Given as goal

-- the last readers' seats were joined with their owners'
abbrev pub invariant-loop : goal.invariant-loop
invariant-loop l = record {
  joined : HaveJoined l.shared.machine l.fn.seats.items l.seats.items;
  count : length l.seats.items + l.counter ≡ length (threads_of l.shared.machine);
}
