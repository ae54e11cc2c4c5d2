use Rattle.clk_file.proofs.Spelling.{words_spelled}
use Rattle.clk_file.proofs.laws.words_are_spelled.Goals as goal

pub returns : goal.returns
returns c = words_spelled
