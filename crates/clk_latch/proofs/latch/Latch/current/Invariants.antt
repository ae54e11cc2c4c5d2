use Rattle.std.proofs.Common.{◌≡◌, ◌-◌}
use Rattle.clk_latch.specs.Turns.{Went}
use Rattle.clk_latch.proofs.latch.Latch.current.Given as goal

-- a turn is told the ticket that is given
abbrev pub ghosts-begin : goal.ghosts-begin
ghosts-begin a = record { ticket_is = a.ticket }

abbrev pub invariant-loop-turn : goal.invariant-loop-turn
invariant-loop-turn l = record {
  own : l.seat.table_id ≡ l.initial.seat.table_id;
  went : Went l.ticket l.initial.seat.me l.seat.me;
}

-- each turn but the last saw a greater sequence at its end
abbrev pub decreases-loop-turn : goal.decreases-loop-turn
decreases-loop-turn l = 2049 - l.seat.me.0.seen
