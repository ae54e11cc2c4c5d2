use Rattle.std.proofs.Common.{◌≤◌, arith}
use Rattle.clk_machine.proofs.Bounds.{width_few}
use Rattle.clk_watch.proofs.Smallness.{source_small}
use Rattle.clk_watch.proofs.numbers.source_ns.Goals as goal

pub cyc_to_ns-requires-clause-fits : goal.cyc_to_ns-requires-clause-fits
cyc_to_ns-requires-clause-fits c =
    let width = width_few c.source.result.now.bits c.source.ensures.range.bits in
    let bits : c.count-bits.result ≤ 64 = omega (arith, c.count-bits.ensures, width.1) in
    let few = source_small c.args.machine.now c.args.s c.args.now c.args.last c.count-bits.result c.masked_delta.result c.rate_of.result c.requires.limits c.requires.source bits c.requires.now c.requires.last c.masked_delta.ensures c.rate_of.ensures.rate in
    omega (arith, few)

pub returns-clause-few : goal.returns-clause-few
returns-clause-few c =
    let width = width_few c.source.result.now.bits c.source.ensures.range.bits in
    let bits : c.count-bits.result ≤ 64 = omega (arith, c.count-bits.ensures, width.1) in
    let few = source_small c.args.machine.now c.args.s c.args.now c.args.last c.count-bits.result c.masked_delta.result c.rate_of.result c.requires.limits c.requires.source bits c.requires.now c.requires.last c.masked_delta.ensures c.rate_of.ensures.rate in
    omega (arith, few, c.cyc_to_ns.ensures)
