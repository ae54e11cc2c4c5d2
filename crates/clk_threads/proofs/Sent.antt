-- What may cross to another thread: a run's workers, and what they use together.
use denote.Param.Send.{IsSend, IsSync, sendable}
use Rattle.std.proofs.Crossing.{crosses}
use Rattle.atomic_table.proofs.shared.Seat.TheSendSync.{the_send as table_seat_send}
use Rattle.atomic_table.proofs.shared.Shared.TheSendSync.{the_send as table_send, the_sync as table_sync}
use Rattle.atomic_table.proofs.send_lease.SendLease.TheSendSync.{the_send as lease_send, the_sync as lease_sync}
use Rattle.clk_num.specs.contracts.list.List
use Rattle.clk_ticket.proofs.Sent.{time_sent, tickets_shared}
use Rattle.clk_machine.proofs.Sent.{machine_shared}
use Rattle.clk_words.specs.contracts.seat.Seat
use Rattle.clk_words.specs.contracts.words.Words
use Rattle.clk_lawful.specs.contracts.event.Event
use Rattle.clk_latch.specs.contracts.seat.LatchSeat
use Rattle.clk_latch.specs.contracts.latch.Latch
use Rattle.clk_worker.specs.contracts.own.Own
use Rattle.clk_worker.specs.contracts.shared.Shared
use Rattle.clk_worker.specs.contracts.worker.Worker

seat_sent : IsSend Seat.the_row
seat_sent = search (sendable, crosses, table_seat_send) depth 60

latch_seat_sent : IsSend LatchSeat.the_row
latch_seat_sent = search (sendable, crosses, table_seat_send) depth 60

own_sent : IsSend Own.the_row
own_sent = search (seat_sent, latch_seat_sent, time_sent, sendable, crosses) depth 60

event_sent : IsSend Event.the_row
event_sent = search (sendable, crosses) depth 60

events_sent : IsSend (List.the_row Event.the_row)
events_sent = search (event_sent, sendable, crosses) depth 60

worker_sent : IsSend Worker.the_row
worker_sent = search (own_sent, events_sent, sendable, crosses) depth 60 fits 20000

pub workers_sent : IsSend (List.the_row Worker.the_row)
workers_sent = search (worker_sent, sendable, crosses) depth 60

words_shared : IsSync Words.the_row
words_shared = search (sendable, crosses, table_send, table_sync, lease_send, lease_sync) depth 60

latch_shared : IsSync Latch.the_row
latch_shared = search (sendable, crosses, table_send, table_sync, lease_send, lease_sync) depth 60

latches_shared : IsSync (List.the_row Latch.the_row)
latches_shared = search (latch_shared, sendable, crosses) depth 60

pub shared_shared : IsSync Shared.the_row
shared_shared = search (words_shared, latches_shared, tickets_shared, machine_shared, sendable, crosses) depth 60 fits 20000
