use Rattle.clk_trace.proofs.Taking.{takes_more}
use Rattle.clk_trace.proofs.write.write_history.Goals as goal

pub returns : goal.returns
returns g c =
    let head = rw c.len.ensures at c.line.ensures in
    let steps = rw c.items.ensures at c.write_steps.ensures in
    takes_more _ _ _ _ _ head steps
