use Rattle.std.proofs.Common.{rules, FitsSigned, w64}
use Rattle.clk_demote.proofs.Shifting.{offset_is}
use Rattle.clk_demote.proofs.opening.stable_offset.Goals as goal

pub returns : goal.returns
returns c =
    let raw : FitsSigned w64 c.args.raw = search rules in
    let sched : FitsSigned w64 c.args.sched_offset = search rules in
    let gtod : FitsSigned w64 c.args.gtod = search rules in
    offset_is c.args.raw c.args.sched_offset c.args.gtod raw sched gtod
