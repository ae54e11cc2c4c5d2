use Rattle.std.proofs.Common.{◌≡◌, ◌-◌, ◌*◌, vec_len}
use Rattle.std.specs.List.{All}
use Rattle.clk_ticket.specs.Time.{fresh}
use Rattle.clk_tests_latch.specs.declared.latch.TheConstants.{READS, TOTAL}
use Rattle.clk_tests_latch.proofs.latch.readers_of.Given as goal

-- each reader so far has its seats
abbrev pub invariant-loop : goal.invariant-loop
invariant-loop g l = record {
  own : g.E.Epochs.fits l.epochs l.seat;
  seat : g.E.Epochs.epoch l.seat ≡ g.E.Epochs.epoch l.initial.seat;
  time : l.time ≡ fresh l.tickets.table (TOTAL - READS * l.counter) 0;
  ready : All (λ r. g.E.Epochs.fits l.epochs r.seat × (r.time ≡ fresh l.tickets.table READS r.time.seen)) l.readers.items;
  count : vec_len l.readers ≡ l.counter;
}
