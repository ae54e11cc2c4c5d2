use Rattle.clk_num.proofs.Heights.{difference_is}
use Rattle.clk_num.proofs.wrapping.above.Goals as goal

pub returns : goal.returns
returns c = difference_is c.args.value c.args.other c.ranges.value c.ranges.other
