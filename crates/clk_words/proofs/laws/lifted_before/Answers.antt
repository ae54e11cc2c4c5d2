use Rattle.clk_words.proofs.Lifted.{lifted_before}
use Rattle.clk_words.proofs.laws.lifted_before.Goals as goal

pub returns : goal.returns
returns c = lifted_before
