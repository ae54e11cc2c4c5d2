use Rattle.std.proofs.Common.{arith}
use Rattle.clk_machine.specs.Plan.{CpuPlan, cpu_plan}
use Rattle.clk_machine.specs.Tested.{script_tickets, IsRunnable}
use Rattle.clk_machine.proofs.Passing.{plan_at}
use Rattle.clk_machine.proofs.Counting.{sum_at}
use Rattle.clk_machine.proofs.tickets.of_cpus.Goals as goal

pub tickets-tickets-requires : goal.tickets-tickets-requires
tickets-tickets-requires c =
    plan_at cpu_plan (λ p. IsRunnable p.script) c.args.cpus.now c.loop-cpu.cpu-index c.cpu-item.result c.loop-cpu-test.true c.cpu-item.is c.requires.scripts

pub loop-cpu-preserved : goal.loop-cpu-preserved
loop-cpu-preserved c =
    let more = sum_at cpu_plan (λ (p : CpuPlan). script_tickets p.script) c.args.cpus.now c.loop-cpu.cpu-index c.cpu-item.result c.loop-cpu-test.true c.cpu-item.is in
    let count = c.tickets-tickets.ensures.count in
    let small = c.tickets-tickets.ensures.few in
    record { sum = omega (arith, more, count, c.loop-cpu.invariant.sum); few = omega (arith, small, c.loop-cpu.invariant.few) }
