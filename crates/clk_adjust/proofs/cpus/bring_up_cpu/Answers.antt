use Rattle.std.proofs.Common.{◌≤◌, Option, sym, subst, ◌∙◌}
use Rattle.clk_machine.specs.declared.parts.BringUpPart.{BringUpPart}
use Rattle.clk_adjust.specs.Tickets.{cpu_tickets}
use Rattle.clk_adjust.specs.Outcomes.{runs_of, HasRoom}
use Rattle.clk_adjust.proofs.Drawing.{drawn_none}
use Rattle.clk_adjust.proofs.Climbing.{brings_untested, tests_by}
use Rattle.clk_adjust.proofs.cpus.bring_up_cpu.Goals as goal

pub returns-in-None-clause-brings : goal.returns-in-None-clause-brings
returns-in-None-clause-brings g c =
    brings_untested _ _ _ c.test_of.result c.args.failed _ c.args.runs c.tested.result c.test_of.ensures c.in-None.is c.requires.runs.0 c.tested.ensures

pub returns-in-None-clause-drawn : goal.returns-in-None-clause-drawn
returns-in-None-clause-drawn g c = drawn_none _ _

pub test_cpu-requires-clause-part : goal.test_cpu-requires-clause-part
test_cpu-requires-clause-part g c κs within = tests_by c.args.machine.now c.args.but c.args.cpu c.in-Some.part (sym c.test_of.ensures ∙ c.in-Some.is)

pub test_cpu-requires-clause-runs : goal.test_cpu-requires-clause-runs
test_cpu-requires-clause-runs g c κs within =
    let part = tests_by c.args.machine.now c.args.but c.args.cpu c.in-Some.part (sym c.test_of.ensures ∙ c.in-Some.is) in
    subst (λ (o : Option BringUpPart). HasRoom (runs_of o) c.args.runs) part c.requires.runs

pub test_cpu-requires-clause-tickets : goal.test_cpu-requires-clause-tickets
test_cpu-requires-clause-tickets g c κs within =
    let part = tests_by c.args.machine.now c.args.but c.args.cpu c.in-Some.part (sym c.test_of.ensures ∙ c.in-Some.is) in
    subst (λ (o : Option BringUpPart). cpu_tickets c.args.machine.now o ≤ c.args.time.now.left) part c.requires.tickets
