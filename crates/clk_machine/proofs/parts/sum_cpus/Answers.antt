use Rattle.std.proofs.Common.{◌^◌, ◌≤◌, sym, ◌∙◌, ap, arith}
use Rattle.clk_machine.specs.Plan.{cpu_plan}
use Rattle.clk_num.specs.Listed.{Listed}
use Rattle.clk_machine.specs.declared.parts.Jump.{Jump}
use Rattle.clk_machine.specs.declared.parts.CpuPart.{CpuPart}
use Rattle.clk_machine.specs.Limits.{jump_sizes}
use Rattle.clk_machine.specs.Sums.{jump_list_summed, cpu_summed}
use Rattle.clk_machine.proofs.Passing.{plan_at}
use Rattle.clk_machine.proofs.Summing.{map_more, map_stands, sizes_of_plan}
use Rattle.clk_machine.proofs.parts.sum_cpus.Goals as goal

pub sum_list-requires : goal.sum_list-requires
sum_list-requires c =
    let stands = map_stands cpu_summed c.args.cpus.now c.loop-cpu.cpus c.loop-cpu.cpu-index c.cpu-item.result c.loop-cpu.invariant c.loop-cpu-test.true c.cpu-item.is in
    let few = plan_at cpu_plan (λ p. jump_sizes p.jumps ≤ 2 ^ 44) c.args.cpus.now c.loop-cpu.cpu-index c.cpu-item.result c.loop-cpu-test.true stands c.requires in
    rw (← c.cpu-item.is) (omega (arith, sizes_of_plan c.cpu-item.result.jumps.items, few))

pub loop-cpu-preserved : goal.loop-cpu-preserved
loop-cpu-preserved c =
    map_more cpu_summed c.args.cpus.now c.loop-cpu.cpus c.loop-cpu.cpu-index c.cpu-item.result _ c.loop-cpu.invariant c.loop-cpu-test.true c.cpu-item.is
    (ap (λ (x : CpuPart). record x { jumps = c.sum_list.new.jumps }) (sym c.cpu-item.is)
    ∙ ap (λ (l : Listed Jump). record c.cpu-item.result { jumps = l }) (c.sum_list.ensures ∙ ap (λ (x : CpuPart). jump_list_summed x.jumps) (sym c.cpu-item.is)))
