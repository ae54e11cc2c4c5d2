use Rattle.std.proofs.Common.{◌≡◌, ◌+◌, ◌*◌, ◌≤◌}
use Rattle.clk_ticket.specs.Time.{share_of}
use Rattle.clk_ticket.specs.declared.tests.TheConstants.{BUDGET}
use Rattle.clk_ticket.proofs.tests.Worker.work.Given as goal

-- the seat keeps its table and its share, and has budget for the draws to come
abbrev pub invariant-loop-i : goal.invariant-loop-i
invariant-loop-i l = record {
  own : l.self.seat.table ≡ l.initial.self.seat.table;
  share : share_of l.self.seat ≡ BUDGET;
  left : BUDGET ≤ l.self.seat.left + 7 * l.i;
}
