use Rattle.std.proofs.Common.{[], refl}
use Rattle.clk_trace.specs.WriterParts.{event_text}
use Rattle.clk_trace.proofs.Lining.{takes_item}
use Rattle.clk_trace.proofs.write.write_events.Goals as goal

pub loop-event-preserved : goal.loop-event-preserved
loop-event-preserved g c = takes_item _ _ _ [] event_text c.args.events.now c.loop-event.event-index _ _ c.loop-event.invariant c.write_event.ensures c.loop-event-test.true refl
