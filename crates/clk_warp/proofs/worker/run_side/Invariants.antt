use Rattle.std.proofs.Common.{◌≡◌, ◌+◌, ◌^◌, ◌<◌, ◌≤◌, length}
use mathlib.Core.List.{IsPrefix}
use Rattle.clk_record.specs.Sides.{of_side}
use Rattle.clk_record.specs.Falls.{is_ended}
use Rattle.clk_warp.specs.Run.{limits_at}
use Rattle.clk_warp.specs.Working.{readings_of, IsReady}
use Rattle.clk_warp.proofs.worker.run_side.Given as goal

-- the seat is ready, and its readings are as many as the last one counts
abbrev pub invariant-loop : goal.invariant-loop
invariant-loop g l = record {
  next : (goal.iterator-loop g).can_next l.iterator' × (goal.iterator-loop g).is_finite l.iterator';
  ready : IsReady l.lock l.side l.seat;
  grown : IsPrefix l.fn.seat.known l.seat.known;
  count : length l.seat.own ≡ length l.fn.seat.own + l.turned.readings;
  readings : l.turned.readings ≡ length (of_side l.side (readings_of l.seat.own));
  some : (1 ≤ l.turned.readings) × (l.turned.readings < 2 ^ 32);
  ended : l.turned.ended ≡ is_ended (limits_at l.lock.first) l.side (readings_of l.seat.own);
  small : l.turned.tsc < 2 ^ 50;
}
