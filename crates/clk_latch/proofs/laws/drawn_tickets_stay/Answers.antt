use Rattle.clk_latch.proofs.Staying.{stay_drawn}
use Rattle.clk_latch.proofs.laws.drawn_tickets_stay.Goals as goal

pub returns : goal.returns
returns c = stay_drawn
