use Rattle.std.proofs.Common.{◌≡◌, ◌+◌, ◌≤◌, drop, map}
use Rattle.clk_base.specs.First.{first, each_told}
use Rattle.clk_machine.specs.Plan.{cpu_plan}
use Rattle.clk_machine.specs.Ranges.{cpu_tests, script_length, each_cpu, words_of_cpus}
use Rattle.clk_machine.proofs.threads.test_cpus.Given as goal

-- what is left decides, and the words so far and those that are left are all
abbrev pub invariant-loop-i : goal.invariant-loop-i
invariant-loop-i l = record {
  left : each_cpu l.cpus (map cpu_plan l.list)
      ≡ each_told (λ words entry c. first (cpu_tests l.cpus entry words c)) (λ words c. words + script_length c.script) l.before (l.i + 1) (drop l.i (map cpu_plan l.list));
  words : l.before + words_of_cpus (drop l.i (map cpu_plan l.list)) ≡ words_of_cpus (map cpu_plan l.list);
  few : l.before ≤ 524288;
}
