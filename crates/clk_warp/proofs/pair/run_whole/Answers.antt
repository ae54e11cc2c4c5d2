use Rattle.std.proofs.Common.{◌∙◌, rules, to_z-of_z, FitsSigned, w64}
use Rattle.clk_warp.proofs.Pairing.{paired}
use Rattle.clk_warp.proofs.pair.run_whole.Goals as goal

pub returns-in-Ok-new-clause-run : goal.returns-in-Ok-new-clause-run
returns-in-Ok-new-clause-run g c =
    let adjust_fits : FitsSigned w64 c.args.adjust = search rules in
    let state_is = simp to_z-of_z at c.in-Ok.ensures.state in
    paired c.args.machine.now c.args.cpu c.args.adjust c.args.time c.in-Ok-new.lock.first c.run_both-state.result c.into_run.result.0 c.into_run.result.1
    (c.in-Ok-new.ensures.first ∙ state_is)
    c.run_both-state.ensures.finished
    c.into_run.ensures.run
    c.into_run.ensures.readings
    c.into_run.ensures.counters
    c.into_run.ensures.time
