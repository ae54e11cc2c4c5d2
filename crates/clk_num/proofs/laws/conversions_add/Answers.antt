use Rattle.clk_num.proofs.Converting.{convert_rises, convert_adds}
use Rattle.clk_num.proofs.laws.conversions_add.Goals as goal

pub returns : goal.returns
returns c = record { rises = convert_rises; adds = convert_adds }
