use Rattle.std.proofs.Common.{◌≡◌, ◌+◌, ◌≤◌, length}
use Rattle.std.specs.List.{All}
use Rattle.clk_machine.specs.Plan.{cpu_count}
use Rattle.clk_adjust.specs.Outcomes.{runs_of, HasRoom}
use Rattle.clk_adjust.proofs.Climbing.{Climbs}
use Rattle.clk_adjust.proofs.cpus.bring_up_each.Given as goal

-- the CPUs so far are brought up, and there is room for the others
abbrev pub invariant-loop-cpu : goal.invariant-loop-cpu
invariant-loop-cpu g l = record {
  count : length l.ups.items + 1 ≡ l.cpu;
  climbs : Climbs l.machine l.but l.initial.time l.ups.items l.failed l.time;
  ups_room : cpu_count l.machine ≤ l.ups.room + l.cpu;
  rooms : cpu_count l.machine ≤ length l.rooms.items + l.cpu;
  runs_room : All (HasRoom (runs_of l.machine.bringup)) l.rooms.items;
}
