use Rattle.std.proofs.Common.{append-nil}
use Rattle.clk_trace.proofs.Taking.{takes_more}
use Rattle.clk_trace.proofs.write_watch.write_watch.Goals as goal

pub returns-in-Some : goal.returns-in-Some
returns-in-Some g c =
    let head = rw c.from.ensures at c.line.ensures in
    let checks = rw c.len.ensures at c.write_checks.ensures in
    rw (c.in-Some.is, append-nil) (takes_more _ _ _ _ _ head checks)
