use Rattle.std.proofs.Common.{◌≡◌, ◌-◌, ◌*◌, vec_len}
use Rattle.std.specs.List.{All}
use Rattle.clk_ticket.specs.Time.{fresh}
use Rattle.clk_ticket.specs.declared.tests.Worker.{Worker}
use Rattle.clk_ticket.specs.declared.tests.TheConstants.{BUDGET, TOTAL}
use Rattle.clk_ticket.proofs.tests.workers.Given as goal

-- each worker so far has its part of the budget
abbrev pub invariant-loop : goal.invariant-loop
invariant-loop l = record {
  whole : l.whole ≡ fresh l.tickets.table (TOTAL - BUDGET * l.counter) 0;
  ready : All (λ (w : Worker). w.seat ≡ fresh l.tickets.table BUDGET w.seat.seen) l.workers.items;
  count : vec_len l.workers ≡ l.counter;
}
