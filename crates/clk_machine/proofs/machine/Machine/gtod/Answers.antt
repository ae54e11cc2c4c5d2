use Rattle.std.proofs.Common.{pos, ◌∙◌, ap, w64, arith}
use Rattle.std.proofs.lemmas.Int.{ints, to_z_pos}
use Rattle.clk_machine.specs.Plan.{plan_of}
use Rattle.clk_machine.proofs.Bounds.{gtod_small}
use Rattle.clk_machine.proofs.machine.Machine.gtod.Goals as goal

pub cyc_to_ns-requires-clause-fits : goal.cyc_to_ns-requires-clause-fits
cyc_to_ns-requires-clause-fits c =
    let small = gtod_small (plan_of c.self.inside.parts) c.args.k c.self.invariant.limits.ranges c.requires in
    rw (c.reference.ensures.count, ← c.self.view_is, c.self.invariant.reference) (omega (arith, small))

pub cyc_to_ns-requires-clause-shift : goal.cyc_to_ns-requires-clause-shift
cyc_to_ns-requires-clause-shift c = c.self.invariant.shifts.1

pub overflow_cast-result : goal.overflow_cast-result
overflow_cast-result c =
    let small = gtod_small (plan_of c.self.inside.parts) c.args.k c.self.invariant.limits.ranges c.requires in
    let is = rw (c.reference.ensures.count, ← c.self.view_is, c.self.invariant.reference) at c.cyc_to_ns.ensures in
    omega (arith, ints, small, is)

pub returns-clause-time : goal.returns-clause-time
returns-clause-time c =
    let small = gtod_small (plan_of c.self.inside.parts) c.args.k c.self.invariant.limits.ranges c.requires in
    let is = rw (c.reference.ensures.count, ← c.self.view_is, c.self.invariant.reference) at c.cyc_to_ns.ensures in
    to_z_pos w64 c.cyc_to_ns.result (omega (arith, small, is)) ∙ rw (← c.self.view_is) (ap pos is)

pub returns-clause-small : goal.returns-clause-small
returns-clause-small c =
    let small = gtod_small (plan_of c.self.inside.parts) c.args.k c.self.invariant.limits.ranges c.requires in
    let is = rw (c.reference.ensures.count, ← c.self.view_is, c.self.invariant.reference) at c.cyc_to_ns.ensures in
    rw (to_z_pos w64 c.cyc_to_ns.result (omega (arith, small, is))) (omega (arith, ints, small, is), omega (arith, ints, small, is))
