use Rattle.clk_words.proofs.Replay.{offset_range}
use Rattle.clk_words.proofs.tests.demotion.stable.Goals as goal

pub returns-clause-offset : goal.returns-clause-offset
returns-clause-offset c = offset_range _ c.opening_in.ensures.opening
