use Rattle.clk_threads.proofs.Halfway.{HalfBack}
use Rattle.clk_threads.proofs.run.back_all.Given as goal

-- the workers so far are back
abbrev pub invariant-loop-worker : goal.invariant-loop-worker
invariant-loop-worker l = HalfBack l.initial.parts l.parts l.fn.workers.items l.yielded
