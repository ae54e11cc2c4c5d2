use Rattle.std.proofs.Common.{◌≡◌, ◌+◌, ◌≤◌, length}
use Rattle.std.specs.List.{All}
use Rattle.clk_base.specs.Walk.{EachFrom}
use Rattle.clk_machine.specs.Plan.{cpu_count}
use Rattle.clk_record.specs.declared.up.UpOutcome.TheVariants.{Untested}
use Rattle.clk_record.specs.BroughtUp.{IsLeft}
use Rattle.clk_tool.proofs.make.untested.Given as goal

-- the CPUs so far are left as they were, and there is room for the others
abbrev pub invariant-loop-cpu : goal.invariant-loop-cpu
invariant-loop-cpu l = record {
  count : length l.entries.items + 1 ≡ l.cpu;
  few : l.cpu ≤ cpu_count l.machine;
  room : cpu_count l.machine ≤ l.entries.room + l.cpu;
  numbers : EachFrom (λ n up. up.cpu ≡ n) 1 l.entries.items;
  left : All (IsLeft Untested) l.entries.items;
}
