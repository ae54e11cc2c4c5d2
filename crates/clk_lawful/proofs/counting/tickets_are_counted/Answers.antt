use Rattle.clk_lawful.proofs.CountingLaws.{counts_tickets}
use Rattle.clk_lawful.proofs.counting.tickets_are_counted.Goals as goal

pub returns : goal.returns
returns c = counts_tickets
