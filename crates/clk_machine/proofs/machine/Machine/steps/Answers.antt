use Rattle.std.proofs.Common.{sym, ◌∙◌, ap}
use Rattle.std.specs.List.{sum_by}
use Rattle.clk_machine.specs.Plan.{script_plan, cpu_count, thread_at}
use Rattle.clk_machine.specs.Steps.{steps_for}
use Rattle.clk_machine.proofs.Counting.{runnable, script_sum}
use Rattle.clk_machine.proofs.machine.Machine.steps.Goals as goal

pub steps-requires : goal.steps-requires
steps-requires c = runnable (cpu_count c.args.self.now) (script_plan c.script.result.now) c.script.ensures.limits

pub returns-clause-count : goal.returns-clause-count
returns-clause-count c =
    let cpu = (thread_at c.args.self.now c.args.thread).0 in
    (rw c.cpu_of.ensures at c.steps.ensures.count) ∙ sym (script_sum (steps_for c.args.w cpu) (script_plan c.script.result.now)) ∙ ap (sum_by (steps_for c.args.w cpu)) c.script.ensures.words
