use Rattle.std.proofs.Common.{◌≡◌, ◌-◌, length, ◌∙◌, arith}
use Rattle.std.proofs.lemmas.List.{length-map}
use Rattle.clk_machine.specs.Plan.{plan_of, cpu_plan, reader_plan, cpu_count}
use Rattle.clk_machine.specs.Limits.{IsReader}
use Rattle.clk_machine.proofs.Passing.{plan_at}
use Rattle.clk_machine.proofs.Threading.{reader_thread, reader_below}
use Rattle.clk_machine.proofs.machine.Machine.reader.Goals as goal

pub get-requires : goal.get-requires
get-requires c =
    let count = c.cpus.ensures.count in
    let past = c.requires.past in
    reader_below c.self.inside.parts c.args.thread c.cpus.result (rw (← c.self.view_is) at count) (rw (← c.self.view_is) at c.requires.thread) (omega arith)

pub returns-clause-range : goal.returns-clause-range
returns-clause-range c =
    let count = c.cpus.ensures.count in
    let past = c.requires.past in
    let low = reader_below c.self.inside.parts c.args.thread c.cpus.result (rw (← c.self.view_is) at count) (rw (← c.self.view_is) at c.requires.thread) (omega arith) in
    rw (← c.self.view_is) (plan_at reader_plan (IsReader (cpu_count (plan_of c.self.inside.parts))) c.self.inside.parts.reader.items (c.args.thread - c.cpus.result) c.get.result.now low c.get.ensures
    c.self.invariant.limits.ranges.reader)

pub returns-clause-thread : goal.returns-clause-thread
returns-clause-thread c =
    let count = c.cpus.ensures.count in
    let past = c.requires.past in
    let cpus : c.cpus.result ≡ length c.self.inside.parts.cpu.items = (rw (← c.self.view_is) at count) ∙ length-map c.self.inside.parts.cpu.items cpu_plan in
    let low = reader_below c.self.inside.parts c.args.thread c.cpus.result (rw (← c.self.view_is) at count) (rw (← c.self.view_is) at c.requires.thread) (omega arith) in
    rw (← c.self.view_is) (reader_thread c.self.inside.parts c.args.thread c.get.result.now (omega arith) (rw cpus at low) (rw cpus at c.get.ensures))
