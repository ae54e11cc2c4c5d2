use Rattle.clk_base.proofs.Drawn.{follows_cover, follows_rises}
use Rattle.clk_base.proofs.laws.consecutive_blocks.Goals as goal

pub returns : goal.returns
returns c = λ bs n h. (follows_cover bs n h, follows_rises 0 bs n h)
