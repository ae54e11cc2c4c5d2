use Rattle.clk_watcher.proofs.Making.{RunsTo}
use Rattle.clk_watcher.proofs.watcher.Watcher.run.Given as goal

abbrev pub invariant-loop-number : goal.invariant-loop-number
invariant-loop-number g l = RunsTo l.shared l.initial.self l.number l.self
