use Rattle.clk_latch.proofs.Staying.{stay_right}
use Rattle.clk_latch.proofs.laws.readings_stay_right.Goals as goal

pub returns : goal.returns
returns c = stay_right
