use Rattle.clk_laws.proofs.Lifts.{higher_stay}
use Rattle.clk_laws.proofs.laws.higher_words_stay.Goals as goal

pub returns : goal.returns
returns c = higher_stay
