use Rattle.clk_num.proofs.Words.{inverse, compare, in_range}
use Rattle.clk_num.proofs.laws.words_are_values.Goals as goal

pub returns : goal.returns
returns c = record { inverse = inverse; order = compare; range = in_range }
