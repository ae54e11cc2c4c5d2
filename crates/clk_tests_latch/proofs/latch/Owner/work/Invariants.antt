use Rattle.std.proofs.Common.{◌≡◌, ◌+◌, ◌≤◌, true, pos}
use Rattle.clk_ticket.specs.Time.{share_of}
use Rattle.clk_machine.specs.Records.{AreRecords}
use Rattle.clk_latch.specs.Calls.{AreDrawn}
use Rattle.clk_tests_latch.specs.declared.latch.TheConstants.{UPDATES}
use Rattle.clk_tests_latch.proofs.latch.Owner.work.Given as goal

-- the records are the counter's, and there are updates and tickets for those to come
abbrev pub invariant-loop : goal.invariant-loop
invariant-loop g l = record {
  own : g.E.Epochs.fits l.epochs l.self.seat;
  owner : (g.E.Epochs.epoch l.self.seat).owner ≡ true;
  left : UPDATES ≤ (g.E.Epochs.epoch l.self.seat).left + l.counter;
  records : AreRecords l.machine 0 (pos 0) (g.E.Epochs.epoch l.self.seat).records;
  drawn : AreDrawn l.self.time.blocks (g.E.Epochs.epoch l.self.seat).records;
  table : l.self.time.table ≡ l.tickets.table;
  tickets : UPDATES ≤ l.self.time.left + l.counter;
  share : share_of l.self.time ≡ share_of l.initial.self.time;
}
