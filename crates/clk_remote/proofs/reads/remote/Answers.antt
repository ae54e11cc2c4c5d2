use Rattle.std.proofs.Common.{rules, to_z-of_z, FitsSigned, w64}
use Rattle.clk_remote.proofs.Coupling.{shows_remote}
use Rattle.clk_remote.proofs.reads.remote.Goals as goal

pub returns-in-PerCpu-clause-shows : goal.returns-in-PerCpu-clause-shows
returns-in-PerCpu-clause-shows g c =
    let own : FitsSigned w64 c.couple-coupled.result.own = search rules in
    let other : FitsSigned w64 c.couple-coupled.result.other = search rules in
    rw (to_z-of_z own, to_z-of_z other)
    (shows_remote _ _ _ _ _ _ _ _ _ _ _ c.in-PerCpu.ensures.keeps.site c.in-PerCpu.ensures.shows c.couple-coupled.ensures.shows)
