use Rattle.clk_words.proofs.Holding.{held_put}
use Rattle.clk_words.proofs.laws.held_was_put.Goals as goal

pub returns : goal.returns
returns c = held_put
