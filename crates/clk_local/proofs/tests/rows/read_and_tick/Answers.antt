use Rattle.std.proofs.Common.{arith}
use Rattle.clk_local.proofs.Spending.{few_tickets}
use Rattle.clk_local.proofs.tests.rows.read_and_tick.Goals as goal

pub returns-clause-left : goal.returns-clause-left
returns-clause-left g c =
    let first = c.local-read.ensures.spends.left in
    let second = c.tick-ticked.ensures.spends.left in
    let few = few_tickets c.tick-ticked.result in omega arith
