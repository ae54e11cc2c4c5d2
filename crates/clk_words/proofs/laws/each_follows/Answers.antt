use Rattle.clk_words.proofs.Holding.{each_follows}
use Rattle.clk_words.proofs.laws.each_follows.Goals as goal

pub returns : goal.returns
returns c = each_follows
