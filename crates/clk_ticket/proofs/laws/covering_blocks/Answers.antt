use Rattle.clk_ticket.proofs.Once.{covers_each, each_covers}
use Rattle.clk_ticket.proofs.laws.covering_blocks.Goals as goal

pub returns : goal.returns
returns c = λ bs n. (covers_each bs n, each_covers bs n)
