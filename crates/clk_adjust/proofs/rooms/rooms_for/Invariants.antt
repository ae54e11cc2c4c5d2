use Rattle.std.proofs.Common.{◌≡◌, ◌+◌, ◌≤◌, length}
use Rattle.std.specs.List.{All}
use Rattle.clk_adjust.specs.Outcomes.{HasRoom}
use Rattle.clk_adjust.proofs.rooms.rooms_for.Given as goal

abbrev pub invariant-loop-cpu : goal.invariant-loop-cpu
invariant-loop-cpu l = record {
  count : length l.rooms.items ≡ l._cpu;
  room : l.cpus ≤ l.rooms.room + l._cpu;
  each : All (HasRoom l.runs) l.rooms.items;
}
