use Rattle.clk_watch.proofs.Trial.{Undecided}
use Rattle.clk_watch.proofs.tries.bracket_of.Given as goal

abbrev pub invariant-loop-tried : goal.invariant-loop-tried
invariant-loop-tried l = Undecided l.counter.machine.now l.counter.cpu l.counter.adjust l.s l.initial.attempts l.attempts l.initial.time l.time l._tried
