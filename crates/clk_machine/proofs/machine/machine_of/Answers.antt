use Rattle.std.proofs.Common.{◌≡◌, ◌∙◌, ap}
use Rattle.clk_machine.specs.Plan.{plan_of}
use Rattle.clk_machine.specs.Time.{sched_rate, reference_rate}
use Rattle.clk_machine.proofs.PartsKept.{kept, same_plan}
use Rattle.clk_machine.proofs.machine.machine_of.Goals as goal

pub invariant_of-result : goal.invariant_of-result
invariant_of-result c =
    let e = c.sum_parts.ensures in
    let plan = same_plan c.args.parts c.sum_parts.new.parts e in
    let sched : c.mult_shift-sched.result ≡ sched_rate (plan_of c.sum_parts.new.parts) = (rw c.hertz.ensures at c.mult_shift-sched.ensures.rate) in
    let reference : c.source_rate-reference.result ≡ reference_rate (plan_of c.sum_parts.new.parts) =
    (rw (c.hertz-2.ensures, c.count.ensures) at c.source_rate-reference.ensures.rate) in
    kept c.args.parts c.sum_parts.new.parts c.mult_shift-sched.result c.source_rate-reference.result c.args.tickets e c.requires.ranges c.requires.tickets c.requires.few
    (sched ∙ ap sched_rate plan) (reference ∙ ap reference_rate plan) c.mult_shift-sched.ensures.shift c.source_rate-reference.ensures.shift

pub returns : goal.returns
returns c = same_plan c.args.parts c.sum_parts.new.parts c.sum_parts.ensures
