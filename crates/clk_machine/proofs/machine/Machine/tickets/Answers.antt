use Rattle.std.proofs.Common.{sym, ◌∙◌, ap, arith}
use Rattle.std.specs.List.{sum_by}
use Rattle.clk_machine.specs.Plan.{script_plan, cpu_count}
use Rattle.clk_machine.specs.Tickets.{tickets_of}
use Rattle.clk_machine.proofs.Counting.{runnable, script_sum, thread_draws}
use Rattle.clk_machine.proofs.machine.Machine.tickets.Goals as goal

pub tickets-requires : goal.tickets-requires
tickets-requires c = runnable (cpu_count c.args.self.now) (script_plan c.script.result.now) c.script.ensures.limits

pub returns-clause-count : goal.returns-clause-count
returns-clause-count c = c.tickets.ensures.count ∙ sym (script_sum tickets_of (script_plan c.script.result.now)) ∙ ap (sum_by tickets_of) c.script.ensures.words

pub returns-clause-few : goal.returns-clause-few
returns-clause-few c =
    let count = c.tickets.ensures.count ∙ sym (script_sum tickets_of (script_plan c.script.result.now)) ∙ ap (sum_by tickets_of) c.script.ensures.words in
    let draws = thread_draws c.args.self.now c.args.thread c.requires in
    omega (arith, count, draws, c.tickets_needed-needed.ensures.tickets, c.tickets_needed-needed.ensures.few)
