use mathlib.Core.List.{[], ◌∷◌}
use mir.Syntax.{named}
use denote.Param.{param}
use denote.Param.Send.{sendable, shr_send}
use denote.Ref.{ShrRef}
use Rattle.clk_base.proofs.Sent.{captures_send}
use Rattle.clk_ticket.specs.contracts.table.TicketTable
use Rattle.clk_ticket.proofs.Sent.{tickets_shared}
use Rattle.clk_machine.specs.contracts.machine.Machine
use Rattle.clk_machine.proofs.Sent.{machine_shared}
use Rattle.clk_warp.specs.contracts.lock.TurnLock as Lock
use Rattle.clk_warp.specs.contracts.seat.TurnSeat as Seat
use Rattle.clk_warp.proofs.Pairing.{finished}
use Rattle.clk_warp.proofs.Sent.{seat_sent, lock_shared}
use Rattle.clk_warp.proofs.pair.run_both.Goals as goal

-- rt, the lock, the seat, the tickets, the machine, the gate
pub join-requires-send-F : goal.join-requires-send-F
join-requires-send-F g c κs within =
    let l = named 0 in
    let s = captures_send 1
    (ShrRef l κs.1.1.1.1.1.1.0 (param 0 g.row.R) ∷ ShrRef l κs.1.1.1.1.1.1.1.0 Lock.the_row ∷ Seat.the_row
    ∷ ShrRef l κs.1.1.1.1.1.1.1.1.0 TicketTable.the_row ∷ ShrRef l κs.1.1.1.1.1.1.1.1.1.0 Machine.the_row
    ∷ ShrRef l κs.1.1.1.1.1.1.1.1.1.1.0 (param 1 g.row.G) ∷ [])
    (shr_send l _ _ c.type_bounds.sync-R, (shr_send l _ _ lock_shared, (seat_sent, (shr_send l _ _ tickets_shared, (shr_send l _ _ machine_shared, (shr_send l _ _ c.type_bounds.sync-G, tt)))))) in
    record { owned = s.owned; leaving = s.leaving }

pub join-requires-send-A : goal.join-requires-send-A
join-requires-send-A g c κs within = search (sendable, seat_sent) depth 20

pub returns : goal.returns
returns g c = record {
  finished = finished _ _ _ _ _ _ _ _ c.join.ensures.first c.join.ensures.second c.close.ensures;
  run = record {
    source_now = c.join.result.0.1;
    target_now = c.join.result.1.1;
    source_readings = c.join.result.0.0.readings;
    target_readings = c.join.result.1.0.readings;
    source_works = c.join.ensures.first;
    target_works = c.join.ensures.second;
    closes = c.close.ensures;
  };
}
