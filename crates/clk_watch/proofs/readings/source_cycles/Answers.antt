use Rattle.std.proofs.Common.{rules, ◌≡◌, arith}
use Rattle.clk_machine.specs.Time.{counter_at}
use Rattle.clk_machine.proofs.Bounds.{counter_small_twice}
use Rattle.clk_watch.proofs.Smallness.{other_small}
use Rattle.clk_watch.proofs.readings.source_cycles.Goals as goal

pub returns-then-source-clause-small : goal.returns-then-source-clause-small
returns-then-source-clause-small c =
    let value : c.counter.result ≡ counter_at c.args.counter.machine.now c.args.counter.cpu c.args.counter.adjust c.args.ticket = search rules in
    let few = counter_small_twice c.args.counter.machine.now c.args.counter.cpu c.args.counter.adjust c.args.ticket c.requires.limits c.requires.cpu c.requires.adjust c.requires.ticket in
    omega (arith, value, few)

pub returns-else-source-clause-small : goal.returns-else-source-clause-small
returns-else-source-clause-small c =
    let few = other_small c.args.counter.machine.now c.args.s c.args.ticket c.requires.limits c.requires.source c.requires.ticket in
    omega (arith, c.source_counter.ensures, few)
