use Rattle.std.proofs.Common.{◌≡◌, ◌+◌, ◌≤◌, length}
use Rattle.clk_words.specs.Views.{first_view}
use Rattle.clk_machine.specs.Plan.{threads_of}
use Rattle.clk_threads.specs.Preparing.{gave, thread_seats}
use Rattle.clk_threads.proofs.opened.split_seats.Given as goal

-- the threads so far have their seats
abbrev pub invariant-loop-thread : goal.invariant-loop-thread
invariant-loop-thread l = record {
  first : l.first ≡ record { table = l.words.table; view = gave l.machine l.thread (first_view l.words.start) };
  seats : l.seats.items ≡ thread_seats l.machine l.words l.thread;
  room : length (threads_of l.machine) ≤ l.seats.room + l.thread;
}
