use Rattle.std.proofs.Common.{◌≡◌, ◌*◌, length}
use Rattle.clk_ticket.specs.Time.{share_of}
use Rattle.clk_ticket.specs.declared.tests.TheConstants.{BUDGET}
use Rattle.clk_ticket.proofs.tests.joined.Given as goal

-- the seat has the shares of the workers so far
abbrev pub invariant-loop-worker : goal.invariant-loop-worker
invariant-loop-worker l = record {
  own : l.whole.table ≡ l.tickets.table;
  share : share_of l.whole ≡ BUDGET * length l.yielded;
}
