use Rattle.std.proofs.Common.{◌≡◌, ◌+◌, ◌≤◌, ◌^◌, map, drop}
use Rattle.clk_base.specs.First.{each_told}
use Rattle.clk_machine.specs.Plan.{jump_plan}
use Rattle.clk_machine.specs.Ranges.{jump_test, after_jump}
use Rattle.clk_machine.proofs.jumps.test_each.Given as goal

-- what is left decides
abbrev pub invariant-loop-i : goal.invariant-loop-i
invariant-loop-i l = record {
  left : each_told (jump_test l.row l.entry) after_jump (0, 0) 1 (map jump_plan l.jumps) ≡ each_told (jump_test l.row l.entry) after_jump l.told (l.i + 1) (drop l.i (map jump_plan l.jumps));
  small : l.told.1 ≤ 2 ^ 44;
}
