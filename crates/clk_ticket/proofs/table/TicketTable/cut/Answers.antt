use Rattle.std.proofs.Common.{rules}
use Rattle.clk_ticket.proofs.TicketSteps.{splits}
use Rattle.clk_ticket.proofs.table.TicketTable.cut.Goals as goal

pub split_seat-part-requires : goal.split_seat-part-requires
split_seat-part-requires g c = (search rules, search rules, splits _ _ _ _ (search rules))
