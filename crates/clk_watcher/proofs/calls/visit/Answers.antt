use Rattle.std.proofs.Common.{◌<◌, pos, length, sym, ◌∙◌, subst, rules, to_z-of_z, FitsSigned, w64}
use Rattle.std.proofs.lemmas.List.{get_or_default}
use Rattle.clk_watcher.specs.Calling.{MakesVisit}
use Rattle.clk_watcher.proofs.Visiting.{makes_visit}
use Rattle.clk_watcher.proofs.calls.visit.Goals as goal

pub returns : goal.returns
returns c =
    let v = c.args.ctx.now in
    let there : c.args.cpu < length v.adjusts.now.items = subst (λ n. c.args.cpu < n) (sym c.requires.stands.of_machine.adjusts) c.requires.cpu in
    let fits : FitsSigned w64 c.get.result.now = search rules in
    let adjust = to_z-of_z fits ∙ c.get.ensures ∙ get_or_default v.adjusts.now.items c.args.cpu c.get.result.now (pos 0) there in
    subst (λ ends. MakesVisit c.args.cpu c.args.number c.args.s c.args.stable.now v c.args.trace.now ends c.follow.new.stable c.follow.new.ctx c.follow.new.trace) (sym c.ends_check.ensures)
    (makes_visit c.args.cpu c.args.number c.args.s _ c.args.stable.now c.follow.new.stable v c.follow.new.ctx c.args.trace.now c.follow.new.trace c.check_source-record.result
    c.check_source-record.new.self c.check_source-record.new.time adjust c.check_source-record.ensures c.follow.ensures.follows c.requires.stands c.follow.ensures.if_stable)
