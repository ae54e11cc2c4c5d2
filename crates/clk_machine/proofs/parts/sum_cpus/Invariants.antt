use Rattle.std.proofs.Common.{◌≡◌, ◌++◌, map, take, drop}
use Rattle.clk_machine.specs.Sums.{cpu_summed}
use Rattle.clk_machine.proofs.parts.sum_cpus.Given as goal

abbrev pub invariant-loop-cpu : goal.invariant-loop-cpu
invariant-loop-cpu l = l.cpus ≡ map cpu_summed (take l.cpu-index l.initial.cpus) ++ drop l.cpu-index l.initial.cpus
