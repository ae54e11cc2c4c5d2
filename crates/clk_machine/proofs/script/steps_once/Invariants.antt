use Rattle.std.proofs.Common.{◌≡◌, ◌*◌, ◌≤◌, take}
use Rattle.std.specs.List.{sum_by}
use Rattle.clk_machine.specs.Steps.{steps_for}
use Rattle.clk_machine.proofs.script.steps_once.Given as goal

abbrev pub invariant-loop-word : goal.invariant-loop-word
invariant-loop-word l = record {
  sum : l.steps ≡ sum_by (steps_for l.w l.cpu) (take l.word-index l.words);
  few : l.steps ≤ l.word-index * 3;
}
