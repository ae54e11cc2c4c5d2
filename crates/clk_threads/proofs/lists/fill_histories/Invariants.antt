use Rattle.std.proofs.Common.{◌≡◌, ◌+◌, ◌≤◌}
use Rattle.clk_machine.specs.Plan.{cpu_count}
use Rattle.clk_threads.specs.Preparing.{histories_below}
use Rattle.clk_threads.proofs.lists.fill_histories.Given as goal

abbrev pub invariant-loop-word : goal.invariant-loop-word
invariant-loop-word l = record {
  items : l.histories.items ≡ histories_below l.machine l.word;
  room : cpu_count l.machine ≤ l.histories.room + l.word;
}
