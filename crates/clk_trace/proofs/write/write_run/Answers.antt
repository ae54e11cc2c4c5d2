use Rattle.clk_trace.proofs.Taking.{takes_more}
use Rattle.clk_trace.proofs.write.write_run.Goals as goal

pub returns : goal.returns
returns g c =
    let head = rw c.from.ensures at c.line.ensures in
    let readings = rw c.items.ensures at c.write_readings.ensures in
    let done = rw c.len-count.ensures at c.write_done.ensures in
    takes_more _ _ _ _ _ (takes_more _ _ _ _ _ head readings) done
