use Rattle.std.proofs.Common.{◌≤◌, ap, arith}
use Rattle.clk_machine.specs.declared.parts.ReferencePart.{ReferencePart}
use Rattle.clk_machine.specs.Plan.{count_of}
use Rattle.clk_machine.proofs.Bounds.{width_few}
use Rattle.clk_watch.proofs.Smallness.{watchdog_small}
use Rattle.clk_watch.proofs.numbers.reference_ns.Goals as goal

pub cyc_to_ns-requires-clause-fits : goal.cyc_to_ns-requires-clause-fits
cyc_to_ns-requires-clause-fits c =
    let width = width_few c.args.machine.now.reference.bits c.requires.limits.ranges.reference.bits in
    let same = ap (λ (r : ReferencePart). count_of r.bits) c.reference_part.ensures in
    let bits : c.count-bits.result ≤ 64 = omega (arith, c.count-bits.ensures, width.1, same) in
    let few = watchdog_small c.args.machine.now c.args.now c.args.last c.count-bits.result c.masked_delta.result c.reference_rate.result c.requires.limits bits c.requires.now c.requires.last c.masked_delta.ensures c.reference_rate.ensures.rate in
    omega (arith, few)

pub returns-clause-few : goal.returns-clause-few
returns-clause-few c =
    let width = width_few c.args.machine.now.reference.bits c.requires.limits.ranges.reference.bits in
    let same = ap (λ (r : ReferencePart). count_of r.bits) c.reference_part.ensures in
    let bits : c.count-bits.result ≤ 64 = omega (arith, c.count-bits.ensures, width.1, same) in
    let few = watchdog_small c.args.machine.now c.args.now c.args.last c.count-bits.result c.masked_delta.result c.reference_rate.result c.requires.limits bits c.requires.now c.requires.last c.masked_delta.ensures c.reference_rate.ensures.rate in
    omega (arith, few, c.cyc_to_ns.ensures)
