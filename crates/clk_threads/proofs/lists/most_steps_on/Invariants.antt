use Rattle.std.proofs.Common.{◌≡◌, ◌+◌, ◌*◌, ◌≤◌, take}
use Rattle.std.specs.List.{sum_by}
use Rattle.clk_machine.specs.Plan.{threads_of}
use Rattle.clk_machine.specs.Steps.{steps_for}
use Rattle.clk_threads.specs.Preparing.{lifts_room}
use Rattle.clk_threads.proofs.lists.most_steps_on.Given as goal

abbrev pub invariant-loop-thread : goal.invariant-loop-thread
invariant-loop-thread l = record {
  steps : l.steps ≡ lifts_room l.machine + sum_by (λ t. sum_by (steps_for l.word t.0) t.1) (take l.thread (threads_of l.machine));
  few : l.steps ≤ 1 + l.thread * (3 * 65536);
}
