use Rattle.std.proofs.Common.{◌+◌, ◌≤◌}
use Rattle.clk_adjust.proofs.Going.{Goes}
use Rattle.clk_adjust.proofs.runs.test_cpu.Given as goal

-- each run so far called for another one
abbrev pub invariant-loop-done : goal.invariant-loop-done
invariant-loop-done g l = record {
  goes : Goes l.machine l.cpu l.most l.done l.initial.time l.runs.items l.adjust l.time;
  room : l.most ≤ l.runs.room + l.done;
}
