use Rattle.std.proofs.Common.{◌≡◌, ◌+◌, ◌≤◌, ◌^◌, map, drop}
use Rattle.clk_base.specs.First.{first, each_told}
use Rattle.clk_machine.specs.Plan.{delay_plan}
use Rattle.clk_machine.specs.Ranges.{delay_tests, after_delay, each_delay}
use Rattle.clk_machine.proofs.delays.test_each.Given as goal

-- what is left decides
abbrev pub invariant-loop-i : goal.invariant-loop-i
invariant-loop-i l = record {
  left : each_delay l.limit (map delay_plan l.delays) ≡ each_told (λ told entry d. first (delay_tests l.limit told entry d)) after_delay l.told (l.i + 1) (drop l.i (map delay_plan l.delays));
  small : l.told.1 ≤ 2 ^ 39;
}
