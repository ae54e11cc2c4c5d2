use Rattle.std.proofs.Common.{get_or}
use Rattle.clk_lawful.specs.Filling.{lines_on, steps_left, Keeps}
use Rattle.clk_trace.proofs.gather.fill_rounds.Given as goal

abbrev pub invariant-loop-round : goal.invariant-loop-round
invariant-loop-round l =
    Keeps l.initial.lists l.lists (λ w. lines_on w (steps_left (λ n. get_or l.initial.next n 0) 0 l.cpu_of l.threads)) (λ w. lines_on w (steps_left (λ n. get_or l.next n 0) 0 l.cpu_of l.threads))
