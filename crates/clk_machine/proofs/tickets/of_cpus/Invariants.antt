use Rattle.std.proofs.Common.{◌≡◌, ◌*◌, ◌^◌, ◌≤◌, take, map}
use Rattle.std.specs.List.{sum_by}
use Rattle.clk_machine.specs.Plan.{cpu_plan}
use Rattle.clk_machine.specs.Tested.{script_tickets}
use Rattle.clk_machine.proofs.tickets.of_cpus.Given as goal

abbrev pub invariant-loop-cpu : goal.invariant-loop-cpu
invariant-loop-cpu l = record {
  sum : l.tickets ≡ sum_by (λ p. script_tickets p.script) (take l.cpu-index (map cpu_plan l.cpus));
  few : l.tickets ≤ l.cpu-index * 2 ^ 40;
}
