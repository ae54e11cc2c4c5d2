-- What may cross to another thread: a seat, and the table that seats use together.
use denote.Param.Send.{IsSend, IsSync, sendable}
use Rattle.std.proofs.Crossing.{crosses}
use Rattle.atomic_table.proofs.shared.Seat.TheSendSync.{the_send as table_seat_send}
use Rattle.atomic_table.proofs.shared.Shared.TheSendSync.{the_send as table_send, the_sync as table_sync}
use Rattle.atomic_table.proofs.send_lease.SendLease.TheSendSync.{the_send as lease_send, the_sync as lease_sync}
use Rattle.clk_ticket.specs.contracts.seat.TimeSeat
use Rattle.clk_ticket.specs.contracts.table.TicketTable

pub time_sent : IsSend TimeSeat.the_row
time_sent = search (sendable, crosses, table_seat_send) depth 60

pub tickets_shared : IsSync TicketTable.the_row
tickets_shared = search (sendable, crosses, table_send, table_sync, lease_send, lease_sync) depth 60
