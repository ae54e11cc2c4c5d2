use Rattle.std.proofs.Common.{◌≡◌, ◌+◌, ◌≤◌, length, map, drop}
use Rattle.std.specs.List.{sum_by}
use Rattle.clk_base.specs.Text.{tail_of}
use Rattle.clk_trace.specs.Parts.{part_text, part_room}
use Rattle.clk_trace.proofs.row.Row.line.Given as goal

abbrev pub invariant-loop-left : goal.invariant-loop-left
invariant-loop-left l = record {
  within : l.left ≤ length l.rest;
  text : l.self ≡ tail_of (map part_text (drop l.left l.rest));
  fits : length l.self ≤ 1 + sum_by part_room (drop l.left l.rest);
}

abbrev pub decreases-loop-left : goal.decreases-loop-left
decreases-loop-left l = l.left
