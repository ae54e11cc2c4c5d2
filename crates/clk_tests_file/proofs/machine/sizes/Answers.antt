use Rattle.std.proofs.Common.{arith}
use Rattle.clk_machine.proofs.Threading.{threads_length}
use Rattle.clk_tests_file.proofs.machine.sizes.Goals as goal

pub steps-requires : goal.steps-requires
steps-requires c = omega (arith, threads_length c.args.machine.now)

pub steps-requires-2 : goal.steps-requires-2
steps-requires-2 c = omega (arith, threads_length c.args.machine.now)

pub tickets-requires : goal.tickets-requires
tickets-requires c = omega (arith, threads_length c.args.machine.now)
