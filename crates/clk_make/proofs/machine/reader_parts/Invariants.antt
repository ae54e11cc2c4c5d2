use Rattle.std.proofs.Common.{◌≡◌, ◌+◌, map}
use Rattle.std.specs.List.{range_with_len}
use Rattle.clk_machine.specs.Plan.{reader_plan}
use Rattle.clk_make.specs.Made.{made_readers, made_reader}
use Rattle.clk_make.proofs.machine.reader_parts.Given as goal

-- the readers so far
abbrev pub invariant-loop-reader : goal.invariant-loop-reader
invariant-loop-reader l = record {
  items : map reader_plan l.parts.items ≡ map (made_reader l.n) (range_with_len 0 l.reader);
  room : l.parts.room + l.reader ≡ made_readers l.n;
}
