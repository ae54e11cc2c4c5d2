use Rattle.std.proofs.Common.{◌<◌, length}
use Rattle.std.proofs.lemmas.List.{length-map}
use Rattle.clk_machine.specs.Plan.{source_plan}
use Rattle.clk_machine.specs.Limits.{IsSource}
use Rattle.clk_machine.proofs.Passing.{plan_at}
use Rattle.clk_machine.proofs.machine.Machine.source.Goals as goal

pub returns-clause-range : goal.returns-clause-range
returns-clause-range c =
    let low : c.args.s < length c.self.inside.parts.source.items = rw length-map at (rw (← c.self.view_is) at c.requires) in
    plan_at source_plan IsSource c.self.inside.parts.source.items c.args.s c.get.result.now low c.get.ensures c.self.invariant.limits.ranges.source
