use Rattle.clk_local.proofs.ContextKept.{keeps_both}
use Rattle.clk_local.proofs.Showing.{shows_idle}
use Rattle.clk_local.proofs.Spending.{then_spends}
use Rattle.clk_local.proofs.ticks.idle.Goals as goal

pub returns-clause-shows : goal.returns-clause-shows
returns-clause-shows g c = shows_idle _ _ _ _ _ _ c.local-read.ensures.keeps.site c.local-read.ensures.shows c.tick-tick.ensures.shows

pub returns-clause-spends : goal.returns-clause-spends
returns-clause-spends g c = then_spends 1 _ _ _ _ c.local-read.ensures.spends c.tick-tick.ensures.spends

pub returns-clause-keeps : goal.returns-clause-keeps
returns-clause-keeps g c = keeps_both _ _ _ _ _ c.local-read.ensures.keeps c.tick-tick.ensures.keeps
