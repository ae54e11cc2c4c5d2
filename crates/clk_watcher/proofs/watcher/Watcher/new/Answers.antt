use Rattle.clk_watcher.proofs.Making.{begins}
use Rattle.clk_watcher.proofs.watcher.Watcher.new.Goals as goal

pub returns-clause-begins : goal.returns-clause-begins
returns-clause-begins c = begins c.args.parts c.args.trace c.args.stable
