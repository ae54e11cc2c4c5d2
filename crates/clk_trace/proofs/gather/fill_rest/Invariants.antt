use Rattle.std.proofs.Common.{drop, get_or}
use Rattle.clk_lawful.specs.Filling.{lines_on, steps_left, Keeps}
use Rattle.clk_trace.proofs.gather.fill_rest.Given as goal

abbrev pub invariant-loop-thread : goal.invariant-loop-thread
invariant-loop-thread l =
    Keeps l.initial.lists l.lists (λ w. lines_on w (steps_left (λ n. get_or l.next n 0) 0 l.cpu_of l.threads)) (λ w. lines_on w (steps_left (λ n. get_or l.next n 0) l.thread (drop l.thread l.cpu_of) (drop l.thread l.threads)))
