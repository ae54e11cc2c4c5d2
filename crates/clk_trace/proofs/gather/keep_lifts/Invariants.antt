use Rattle.std.proofs.Common.{drop, map}
use Rattle.clk_lawful.specs.Filling.{lines_on}
use Rattle.clk_lawful.specs.WordHistory.{placed_lift}
use Rattle.clk_trace.proofs.Gaining.{Fills}
use Rattle.clk_trace.proofs.gather.keep_lifts.Given as goal

abbrev pub invariant-loop-lift : goal.invariant-loop-lift
invariant-loop-lift l =
    Fills l.initial.lists l.lists (λ w. lines_on w (map (placed_lift l.thread) l.lifts)) (λ w. lines_on w (map (placed_lift l.thread) (drop l.lift-index l.lifts)))
