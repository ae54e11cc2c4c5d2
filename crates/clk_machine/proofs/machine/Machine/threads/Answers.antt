use Rattle.std.proofs.Common.{arith}
use Rattle.clk_machine.proofs.Threading.{threads_length}
use Rattle.clk_machine.proofs.machine.Machine.threads.Goals as goal

pub returns : goal.returns
returns c = let a = c.cpus.ensures.count in let b = c.readers.ensures in let all = threads_length c.args.self.now in omega (arith, a, b, all)
