use Rattle.std.proofs.Common.{◌≡◌, ◌+◌, length}
use Rattle.clk_threads.proofs.Latching.{HaveMet}
use Rattle.clk_threads.proofs.joins.join_watch.Given as goal

-- the seats of the last CPUs were joined
abbrev pub invariant-loop : goal.invariant-loop
invariant-loop l = record {
  met : HaveMet l.fn.owners.items l.fn.watch.items l.owners.items l.watch.items;
  count : length l.watch.items + l.counter ≡ length l.fn.watch.items;
}
