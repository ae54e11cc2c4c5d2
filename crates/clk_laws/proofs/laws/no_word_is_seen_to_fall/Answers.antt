use Rattle.clk_laws.proofs.Rises.{no_word_falls}
use Rattle.clk_laws.proofs.laws.no_word_is_seen_to_fall.Goals as goal

pub returns : goal.returns
returns c = no_word_falls
