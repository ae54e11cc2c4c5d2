use Rattle.std.proofs.Common.{◌≡◌, ◌+◌, ◌++◌, take}
use Rattle.clk_tool.proofs.sure.append.Given as goal

abbrev pub invariant-loop-byte : goal.invariant-loop-byte
invariant-loop-byte l =
    record { items : l.list.items ≡ l.fn.list.items ++ take l.byte-index l.bytes; room : l.list.room + l.byte-index ≡ l.fn.list.room }
