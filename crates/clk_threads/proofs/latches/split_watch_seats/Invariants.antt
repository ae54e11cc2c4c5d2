use Rattle.std.proofs.Common.{◌≡◌, ◌+◌, ◌≤◌, length}
use Rattle.clk_threads.specs.Preparing.{AreSplitOff}
use Rattle.clk_threads.proofs.latches.split_watch_seats.Given as goal

-- the CPUs so far have their seats
abbrev pub invariant-loop-cpu : goal.invariant-loop-cpu
invariant-loop-cpu l = record {
  epochs : l.latches.epochs ≡ l.initial.latches.epochs;
  seats : l.latches.seats.items ≡ l.initial.latches.seats.items;
  count : length l.latches.watch.items ≡ l.cpu;
  split : AreSplitOff l.latches;
  room : l.cpus ≤ l.latches.watch.room + l.cpu;
}
