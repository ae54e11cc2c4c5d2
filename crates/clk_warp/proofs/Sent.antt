-- What may cross to another thread: a side's seat, and the lock that both use.
use denote.Param.Send.{IsSend, IsSync, sendable}
use Rattle.std.proofs.Crossing.{crosses}
use Rattle.atomic_table.proofs.shared.Seat.TheSendSync.{the_send as table_seat_send}
use Rattle.atomic_table.proofs.shared.Shared.TheSendSync.{the_send as table_send, the_sync as table_sync}
use Rattle.atomic_table.proofs.send_lease.SendLease.TheSendSync.{the_send as lease_send, the_sync as lease_sync}
use Rattle.clk_num.specs.contracts.list.List
use Rattle.clk_ticket.proofs.Sent.{time_sent}
use Rattle.clk_record.specs.contracts.warp.WarpReading
use Rattle.clk_warp.specs.contracts.counts.WarpCounts
use Rattle.clk_warp.specs.contracts.state.TableOf
use Rattle.clk_warp.specs.contracts.state.Inner
use Rattle.clk_warp.specs.contracts.state.WarpState
use Rattle.clk_warp.specs.contracts.seat.TurnSeat
use Rattle.clk_warp.specs.contracts.lock.TurnLock

table_of_sent : IsSend TableOf.the_row
table_of_sent = search (sendable, crosses) depth 60

counts_sent : IsSend WarpCounts.the_row
counts_sent = search (sendable, crosses) depth 60

reading_sent : IsSend WarpReading.the_row
reading_sent = search (sendable, crosses) depth 60

readings_sent : IsSend (List.the_row WarpReading.the_row)
readings_sent = search (sendable, crosses, reading_sent) depth 60

inner_sent : IsSend Inner.the_row
inner_sent = search (time_sent, table_of_sent, counts_sent, readings_sent, sendable, crosses) depth 60 fits 20000

pub state_sent : IsSend WarpState.the_row
state_sent = search (inner_sent, sendable, crosses) depth 60

pub seat_sent : IsSend TurnSeat.the_row
seat_sent = search (sendable, crosses, table_seat_send, state_sent) depth 60

pub lock_shared : IsSync TurnLock.the_row
lock_shared = search (sendable, crosses, table_send, table_sync, lease_send, lease_sync, state_sent) depth 60
