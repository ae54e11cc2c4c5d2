use Rattle.std.proofs.Common.{rules}
use Rattle.clk_ticket.proofs.TicketSteps.{joins, looks}
use Rattle.clk_ticket.proofs.table.TicketTable.join.Goals as goal

pub join_seat-requires : goal.join_seat-requires
join_seat-requires c = (search rules, search rules, search rules, search rules, joins _ _ _ _ _)

pub load-requires : goal.load-requires
load-requires c = (search rules, search rules, looks _ _ _ _)
