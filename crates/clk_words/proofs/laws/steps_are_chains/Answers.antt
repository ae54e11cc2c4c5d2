use Rattle.clk_words.proofs.Replay.{is_chain}
use Rattle.clk_words.proofs.laws.steps_are_chains.Goals as goal

pub returns : goal.returns
returns c = is_chain
