use Rattle.std.proofs.Common.{arith}
use Rattle.clk_trace.proofs.Gaining.{thread_next}
use Rattle.clk_trace.proofs.Keeping.{keeps_none, keeps_next, keeps_room, room_part}
use Rattle.clk_trace.proofs.gather.keep_rest.Goals as goal

pub loop-part-init : goal.loop-part-init
loop-part-init c = keeps_none _ _

pub keep_event-requires-clause-room : goal.keep_event-requires-clause-room
keep_event-requires-clause-room c =
    room_part _ _ _ _ (thread_next c.args.thread c.args.cpu c.args.events.now c.loop-part.part _ (omega (arith, c.loop-part-test.true)))
    (keeps_room _ _ _ _ c.requires.room c.loop-part.invariant)

pub loop-part-preserved : goal.loop-part-preserved
loop-part-preserved c =
    keeps_next _ _ _ _ _ _ _ (thread_next c.args.thread c.args.cpu c.args.events.now c.loop-part.part _ (omega (arith, c.loop-part-test.true)))
    c.loop-part.invariant c.keep_event.ensures
