use Rattle.std.proofs.Common.{◌<◌, ◌≤◌, ◌-◌, length, vec_len}
use Rattle.std.specs.Io.KnownBytes.{Consumes}
use Rattle.clk_tool.proofs.whole.read_whole.Given as goal

-- the bytes so far are those that came
abbrev pub invariant-loop-buf : goal.invariant-loop-buf
invariant-loop-buf g l =
    record {
      consumed : Consumes (g.S.Source.rest l.fn.source) (g.S.Source.rest l.source) l.bytes.items;
      later : g.S.Source.faults l.fn.source ≤ g.S.Source.faults l.source;
      room : 0 < length l.buf;
      few : vec_len l.bytes ≤ 1048577;
    }

abbrev pub decreases-loop-buf : goal.decreases-loop-buf
decreases-loop-buf g l = 1048577 - vec_len l.bytes
