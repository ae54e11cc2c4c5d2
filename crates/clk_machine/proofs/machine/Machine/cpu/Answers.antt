use Rattle.std.proofs.Common.{◌<◌, length}
use Rattle.std.proofs.lemmas.List.{length-map}
use Rattle.clk_machine.specs.Plan.{plan_of, cpu_plan, cpu_count}
use Rattle.clk_machine.specs.Limits.{IsCpu}
use Rattle.clk_machine.proofs.Passing.{plan_at}
use Rattle.clk_machine.proofs.Threading.{cpu_thread}
use Rattle.clk_machine.proofs.machine.Machine.cpu.Goals as goal

pub returns-clause-range : goal.returns-clause-range
returns-clause-range c =
    let low : c.args.cpu < length c.self.inside.parts.cpu.items = rw length-map at (rw (← c.self.view_is) at c.requires) in
    rw (← c.self.view_is) (plan_at cpu_plan (IsCpu (cpu_count (plan_of c.self.inside.parts))) c.self.inside.parts.cpu.items c.args.cpu c.get.result.now low c.get.ensures c.self.invariant.limits.ranges.cpu)

pub returns-clause-thread : goal.returns-clause-thread
returns-clause-thread c =
    let low : c.args.cpu < length c.self.inside.parts.cpu.items = rw length-map at (rw (← c.self.view_is) at c.requires) in
    rw (← c.self.view_is) (cpu_thread c.self.inside.parts c.args.cpu c.get.result.now low c.get.ensures)
