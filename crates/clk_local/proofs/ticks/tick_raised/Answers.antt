use Rattle.std.proofs.Common.{rules, to_z-of_z, FitsSigned, w64}
use Rattle.clk_local.proofs.ContextKept.{keeps_both}
use Rattle.clk_local.proofs.Showing.{shows_ticked}
use Rattle.clk_local.proofs.Spending.{then_spends}
use Rattle.clk_local.proofs.ticks.tick_raised.Goals as goal

pub returns-clause-shows : goal.returns-clause-shows
returns-clause-shows g c =
    let gtod : FitsSigned w64 c.store_stamp-stamp.result.gtod = search rules in
    rw (to_z-of_z gtod)
    (shows_ticked _ _ _ _ _ _ _ _ _ _ c.requires.usable.cpu_is c.requires.stamp.owner c.store_stamp-stamp.ensures.keeps.site c.store_stamp-stamp.ensures.shows
    c.local_raised.ensures.shows)

pub returns-clause-spends : goal.returns-clause-spends
returns-clause-spends g c = then_spends 2 1 _ _ _ c.store_stamp-stamp.ensures.spends c.local_raised.ensures.spends

pub returns-clause-keeps : goal.returns-clause-keeps
returns-clause-keeps g c = keeps_both _ _ _ _ _ c.store_stamp-stamp.ensures.keeps c.local_raised.ensures.keeps
