use Rattle.clk_worker.proofs.Making.{HasCome}
use Rattle.clk_worker.proofs.worker.Worker.make_to.Given as goal

abbrev pub invariant-loop-m : goal.invariant-loop-m
invariant-loop-m g l = HasCome l.shared l.fn.self l.m l.self-inside.post l.self-inside.events l.ctx
