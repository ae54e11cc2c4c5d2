use Rattle.std.proofs.Common.{◌≡◌, ◌+◌, ◌≤◌, length, map}
use Rattle.std.specs.List.{All}
use Rattle.clk_latch.specs.Epoch.{owner_of}
use Rattle.clk_threads.proofs.latches.fill_latches.Given as goal

abbrev pub invariant-loop : goal.invariant-loop
invariant-loop l = record {
  count : length l.epochs.items ≡ l.counter;
  latches : map (λ s. s.latch) l.seats.items ≡ l.epochs.items;
  owners : All (λ s. s.epoch ≡ owner_of l.zero 1024) l.seats.items;
  epochs_room : l.cpus ≤ l.epochs.room + l.counter;
  seats_room : l.seats.room + l.counter ≡ l.initial.seats.room;
}
