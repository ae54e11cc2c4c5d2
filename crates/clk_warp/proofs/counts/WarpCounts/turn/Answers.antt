use Rattle.std.proofs.Common.{◌≡◌, subst}
use Rattle.clk_warp.specs.declared.progress.Progress.{Progress}
use Rattle.clk_warp.specs.CountSteps.{WithProgress, Compares}
use Rattle.clk_warp.proofs.Counting.{gone_on, added_turn}
use Rattle.clk_warp.proofs.counts.WarpCounts.turn.Goals as goal

pub returns-clause-counts : goal.returns-clause-counts
returns-clause-counts c = λ l rs ticket h.
    let before = c.args.self.now in
    let middle = c.set_progress.new.self in
    let after = c.compare.new.self in
    let e : c.gone_on-progress.result ≡ gone_on before c.args.side c.args.tsc = cc in
    let both = subst
    (λ (p : Progress). WithProgress c.args.side p before middle × Compares c.args.side p.ended c.args.tsc middle after)
    e
    (c.set_progress.ensures, c.compare.ensures) in
    added_turn c.args.side c.args.tsc ticket l rs before middle after c.requires.started c.requires.going both.0 both.1 h
