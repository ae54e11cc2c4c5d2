use Rattle.clk_words.proofs.Replay.{words_rise}
use Rattle.clk_words.proofs.laws.words_rise.Goals as goal

pub returns : goal.returns
returns c = words_rise
