use Rattle.clk_remote.proofs.Reaching.{reaches_both}
use Rattle.clk_remote.proofs.laws.readings_reach_both.Goals as goal

pub returns : goal.returns
returns c = reaches_both
