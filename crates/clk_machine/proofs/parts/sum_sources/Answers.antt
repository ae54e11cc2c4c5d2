use Rattle.std.proofs.Common.{◌^◌, ◌≤◌, sym, ◌∙◌, ap, arith}
use Rattle.clk_machine.specs.Plan.{source_plan}
use Rattle.clk_num.specs.Listed.{Listed}
use Rattle.clk_machine.specs.declared.parts.Jump.{Jump}
use Rattle.clk_machine.specs.declared.parts.SourcePart.{SourcePart}
use Rattle.clk_machine.specs.Limits.{jump_sizes}
use Rattle.clk_machine.specs.Sums.{jump_list_summed, source_summed}
use Rattle.clk_machine.proofs.Passing.{plan_at}
use Rattle.clk_machine.proofs.Summing.{map_more, map_stands, sizes_of_plan}
use Rattle.clk_machine.proofs.parts.sum_sources.Goals as goal

pub sum_list-requires : goal.sum_list-requires
sum_list-requires c =
    let stands = map_stands source_summed c.args.sources.now c.loop-source.sources c.loop-source.source-index c.source-item.result c.loop-source.invariant c.loop-source-test.true c.source-item.is in
    let few = plan_at source_plan (λ p. jump_sizes p.jumps ≤ 2 ^ 44) c.args.sources.now c.loop-source.source-index c.source-item.result c.loop-source-test.true stands c.requires in
    rw (← c.source-item.is) (omega (arith, sizes_of_plan c.source-item.result.jumps.items, few))

pub loop-source-preserved : goal.loop-source-preserved
loop-source-preserved c =
    map_more source_summed c.args.sources.now c.loop-source.sources c.loop-source.source-index c.source-item.result _ c.loop-source.invariant c.loop-source-test.true c.source-item.is
    (ap (λ (x : SourcePart). record x { jumps = c.sum_list.new.jumps }) (sym c.source-item.is)
    ∙ ap (λ (l : Listed Jump). record c.source-item.result { jumps = l }) (c.sum_list.ensures ∙ ap (λ (x : SourcePart). jump_list_summed x.jumps) (sym c.source-item.is)))
