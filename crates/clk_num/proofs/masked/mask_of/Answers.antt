use Rattle.clk_num.proofs.Turning.{mask_shifted}
use Rattle.clk_num.proofs.masked.mask_of.Goals as goal

pub returns : goal.returns
returns c = mask_shifted c.args.bits c.requires.high
