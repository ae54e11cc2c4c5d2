use Rattle.std.proofs.Common.{◌≡◌, ◌+◌, ◌≤◌}
use Rattle.clk_ticket.specs.Time.{share_of}
use Rattle.clk_tests_latch.specs.declared.latch.TheConstants.{READS}
use Rattle.clk_tests_latch.proofs.latch.Reader.work.Given as goal

-- there are tickets for the readings to come
abbrev pub invariant-loop : goal.invariant-loop
invariant-loop g l = record {
  own : g.E.Epochs.fits l.epochs l.self.seat;
  table : l.self.time.table ≡ l.tickets.table;
  tickets : READS ≤ l.self.time.left + l.counter;
  share : share_of l.self.time ≡ share_of l.initial.self.time;
}
