use Rattle.clk_num.proofs.Rating.{few_cycles}
use Rattle.clk_num.proofs.TrueTime.{convert_bounded}
use Rattle.clk_num.proofs.laws.conversions_are_true.Goals as goal

pub returns : goal.returns
returns c = record { bounded = convert_bounded; few = few_cycles }
