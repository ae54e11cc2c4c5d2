use Rattle.std.proofs.Common.{◌≡◌, Bool, true, false, [], ◌∷◌, ◌++◌, sym, subst, ◌∙◌}
use Rattle.std.proofs.lemmas.Bool.{not-true}
use Rattle.clk_warp.specs.declared.progress.Progress.{Progress}
use Rattle.clk_warp.specs.Counts.{progress_of, AreCountsOf}
use Rattle.clk_warp.specs.CountSteps.{WithProgress}
use Rattle.clk_warp.proofs.Counting.{added_start}
use Rattle.clk_warp.proofs.counts.WarpCounts.add.Goals as goal

pub returns-then-start-clause-counts : goal.returns-then-start-clause-counts
returns-then-start-clause-counts c = λ l rs ticket h.
    let before = c.args.self.now in
    let after = c.set_progress.new.self in
    let away : (progress_of c.args.side before).started ≡ false = not-true _ (sym c.requires.first ∙ c.if-start.true) in
    let e : c.begun.result ≡ record (progress_of c.args.side before) { started = true; start = c.args.tsc } = cc in
    let went = subst (λ (p : Progress). WithProgress c.args.side p before after) e c.set_progress.ensures in
    subst
    (λ (b : Bool). AreCountsOf l (rs ++ (record { side = c.args.side; start = b; ticket = ticket; tsc = c.args.tsc }) ∷ []) after)
    (sym c.if-start.true)
    (added_start c.args.side c.args.tsc ticket l rs before after away c.requires.going went h)

pub returns-else-start-clause-counts : goal.returns-else-start-clause-counts
returns-else-start-clause-counts c = λ l rs ticket h.
    subst
    (λ (b : Bool). AreCountsOf l (rs ++ (record { side = c.args.side; start = b; ticket = ticket; tsc = c.args.tsc }) ∷ []) c.turn.new.self)
    (sym c.if-start.false)
    (c.turn.ensures.counts l rs ticket h)
