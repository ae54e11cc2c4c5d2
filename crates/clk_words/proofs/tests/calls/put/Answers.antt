use Rattle.clk_words.proofs.Loading.{trusted_put}
use Rattle.clk_words.proofs.tests.calls.put.Goals as goal

pub returns-clause-trusted : goal.returns-clause-trusted
returns-clause-trusted c = trusted_put c.try_put.result _ _ _ _ _ _ c.try_put.ensures.done c.try_put.ensures.lost c.requires.trusted
