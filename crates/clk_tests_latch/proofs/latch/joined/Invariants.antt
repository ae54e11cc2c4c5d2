use Rattle.std.proofs.Common.{◌≡◌, ◌+◌, ◌*◌, length}
use Rattle.clk_ticket.specs.Time.{share_of}
use Rattle.clk_tests_latch.specs.declared.latch.TheConstants.{UPDATES, READS}
use Rattle.clk_tests_latch.proofs.latch.joined.Given as goal

-- the seat has the shares of the readers so far
abbrev pub invariant-loop-reader : goal.invariant-loop-reader
invariant-loop-reader g l = record {
  own : g.E.Epochs.fits l.epochs l.seat;
  table : l.time.table ≡ l.tickets.table;
  share : share_of l.time ≡ UPDATES + READS * length l.yielded;
}
