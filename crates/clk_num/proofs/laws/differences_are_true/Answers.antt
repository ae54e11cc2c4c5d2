use Rattle.clk_num.proofs.Turning.{near_is_true, far_is_none, never_longer}
use Rattle.clk_num.proofs.laws.differences_are_true.Goals as goal

pub returns : goal.returns
returns c = record { near = near_is_true; far = far_is_none; short = never_longer }
