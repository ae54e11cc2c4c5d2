use Rattle.std.proofs.Common.{arith}
use Rattle.clk_tool.proofs.ReadingWhole.{CameAtMost-after}
use Rattle.clk_tool.proofs.whole.read_whole.Goals as goal

-- so far at most the limit came, and the last read took at most the room that was left
pub returns-in_err-read_more-clause-taken : goal.returns-in_err-read_more-clause-taken
returns-in_err-read_more-clause-taken g c =
    let room = c.min-room.ensures in
    let came = c.len-in-loop-buf.ensures in
    let few = c.loop-buf.invariant.few in
    CameAtMost-after _ _ _ _ _ _ c.loop-buf.invariant.consumed c.in_err-read_more.ensures.taken (omega (arith, room, came, few))
