use Rattle.std.proofs.Common.{◌≡◌, ◌≤◌, ◌+◌, length, map, take}
use Rattle.std.specs.List.{filter_map}
use Rattle.toml.specs.View.{view}
use Rattle.clk_base.specs.First.{each_from}
use Rattle.clk_machine.specs.Plan.{jump_plan}
use Rattle.clk_file.specs.Shape.{jump_of, jump_test}
use Rattle.clk_file.proofs.items.jumps_of.Given as goal

abbrev pub invariant-loop-i : goal.invariant-loop-i
invariant-loop-i l = record {
  tests : l.refusal ≡ each_from l.initial.refusal (jump_test l.row l.entry) 1 (map view (take l.i l.values));
  values : map jump_plan l.jumps.items ≡ filter_map jump_of (map view (take l.i l.values));
  few : length l.jumps.items ≤ l.i;
  room : l.jumps.room + length l.jumps.items ≡ length l.values;
}
