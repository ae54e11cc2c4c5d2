use Rattle.clk_words.proofs.Holding.{offset_stays}
use Rattle.clk_words.proofs.laws.offset_stays.Goals as goal

pub returns : goal.returns
returns c = offset_stays
