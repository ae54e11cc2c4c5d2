use Rattle.clk_watcher.proofs.Visiting.{PassesTo}
use Rattle.clk_watcher.proofs.calls.visit_all.Given as goal

-- the sources so far were visited
abbrev pub invariant-loop-s : goal.invariant-loop-s
invariant-loop-s l = PassesTo l.cpu l.number l.s l.initial.stable l.initial.ctx l.initial.trace l.stable l.ctx l.trace
