use Rattle.clk_worker.proofs.Making.{begins}
use Rattle.clk_worker.proofs.worker.Worker.new.Goals as goal

pub returns-clause-begins : goal.returns-clause-begins
returns-clause-begins c = begins c.args.post c.args.own c.args.events
