use Rattle.std.proofs.Common.{◌≡◌, ◌+◌, ◌≤◌, drop, map}
use Rattle.clk_base.specs.First.{first, each_told}
use Rattle.clk_machine.specs.Plan.{reader_plan}
use Rattle.clk_machine.specs.Ranges.{reader_tests, script_length, each_reader}
use Rattle.clk_machine.proofs.threads.test_readers.Given as goal

-- what is left decides
abbrev pub invariant-loop-i : goal.invariant-loop-i
invariant-loop-i l = record {
  left : each_reader l.cpus l.words (map reader_plan l.list)
      ≡ each_told (λ before entry r. first (reader_tests l.cpus entry before r)) (λ before r. before + script_length r.script) l.before (l.i + 1) (drop l.i (map reader_plan l.list));
  few : l.before ≤ 524288;
}
