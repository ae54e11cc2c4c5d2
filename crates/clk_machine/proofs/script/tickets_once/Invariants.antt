use Rattle.std.proofs.Common.{◌≡◌, ◌*◌, ◌≤◌, take}
use Rattle.std.specs.List.{sum_by}
use Rattle.clk_machine.specs.Limits.{longest_pause}
use Rattle.clk_machine.specs.Tickets.{tickets_of}
use Rattle.clk_machine.proofs.script.tickets_once.Given as goal

abbrev pub invariant-loop-word : goal.invariant-loop-word
invariant-loop-word l = record {
  sum : l.tickets ≡ sum_by tickets_of (take l.word-index l.words);
  few : l.tickets ≤ l.word-index * longest_pause;
}
