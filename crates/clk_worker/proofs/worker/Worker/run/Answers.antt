use Rattle.std.proofs.Common.{◌<◌, length, sym, subst}
use Rattle.clk_machine.specs.Plan.{threads_of}
use Rattle.clk_worker.specs.Making.{Hand}
use Rattle.clk_worker.proofs.Making.{thread_there, went_all}
use Rattle.clk_worker.proofs.worker.Worker.run.Goals as goal

pub words-end-requires : goal.words-end-requires
words-end-requires g c =
    let s = c.args.shared.now in
    subst (λ (h : Hand). h.post.thread < length (threads_of s.machine)) (sym c.self.view_is) (thread_there s c.args.self.now c.requires.shared)

pub returns-clause-went : goal.returns-clause-went
returns-clause-went g c = went_all _ c.args.shared.now c.args.self.now c.make_to.new.self c.make_to.ensures.made
