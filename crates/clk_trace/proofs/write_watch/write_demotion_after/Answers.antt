use Rattle.std.proofs.Common.{append-nil}
use Rattle.clk_trace.proofs.Taking.{takes_more}
use Rattle.clk_trace.proofs.write_watch.write_demotion_after.Goals as goal

pub returns-in-Some : goal.returns-in-Some
returns-in-Some g c =
    let lifts = rw c.items.ensures at c.write_lifts.ensures in
    rw (c.if-made.true, c.in-Some.is, append-nil) (takes_more _ _ _ _ _ c.write_demotion.ensures lifts)
