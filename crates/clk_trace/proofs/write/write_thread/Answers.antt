use Rattle.clk_trace.proofs.Taking.{takes_more}
use Rattle.clk_trace.proofs.write.write_thread.Goals as goal

pub returns : goal.returns
returns g c =
    let head = rw c.from.ensures at c.line.ensures in
    let events = rw c.items.ensures at c.write_events.ensures in
    takes_more _ _ _ _ _ head events
