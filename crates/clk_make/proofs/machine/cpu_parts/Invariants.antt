use Rattle.std.proofs.Common.{◌≡◌, ◌+◌, map}
use Rattle.std.specs.List.{range_with_len}
use Rattle.clk_machine.specs.Plan.{cpu_plan}
use Rattle.clk_make.specs.Made.{made_cpus, made_cpu}
use Rattle.clk_make.proofs.machine.cpu_parts.Given as goal

-- the cpus so far
abbrev pub invariant-loop-cpu : goal.invariant-loop-cpu
invariant-loop-cpu l = record {
  items : map cpu_plan l.parts.items ≡ map (made_cpu l.n) (range_with_len 0 l.cpu);
  room : l.parts.room + l.cpu ≡ made_cpus l.n;
}
