use Rattle.std.proofs.Common.{◌≡◌, ◌*◌, ◌^◌, ◌≤◌, take, map}
use Rattle.std.specs.List.{sum_by}
use Rattle.clk_machine.specs.Plan.{reader_plan}
use Rattle.clk_machine.specs.Tested.{script_tickets}
use Rattle.clk_machine.proofs.tickets.of_readers.Given as goal

abbrev pub invariant-loop-reader : goal.invariant-loop-reader
invariant-loop-reader l = record {
  sum : l.tickets ≡ sum_by (λ p. script_tickets p.script) (take l.reader-index (map reader_plan l.readers));
  few : l.tickets ≤ l.reader-index * 2 ^ 40;
}
