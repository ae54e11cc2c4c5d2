use Rattle.std.proofs.Common.{◌≡◌, rules}
use Rattle.clk_machine.specs.Time.{counter_at}
use Rattle.clk_machine.proofs.Readings.{counters_adjusted_twice_are_small}
use Rattle.clk_warp.proofs.Stating.{far_from_end}
use Rattle.clk_warp.proofs.state.cycles_at.Goals as goal

pub returns-clause-small : goal.returns-clause-small
returns-clause-small c =
    let most = counters_adjusted_twice_are_small c.args.machine.now c.args.cpu c.args.adjust c.args.ticket c.cpus-cpus.ensures.limits c.requires.cpu c.requires.adjust c.requires.ticket in
    let value : c.counter.result ≡ counter_at c.args.machine.now c.args.cpu c.args.adjust c.args.ticket = search rules in
    far_from_end _ _ value most
