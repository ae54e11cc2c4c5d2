use Rattle.std.proofs.Common.{[], length}
use Rattle.clk_trace.specs.WriterParts.{run_text}
use Rattle.clk_trace.proofs.Lining.{takes_item}
use Rattle.clk_trace.proofs.write.write_runs.Goals as goal

pub loop-place-preserved : goal.loop-place-preserved
loop-place-preserved g c =
    let up = c.args.up.now in
    let below = rw c.items-run-items.ensures at c.loop-place-test.true in
    let item = rw c.items-run-items.ensures at c.run-item.is in
    takes_item _ _ _ [] (run_text up.cpu (length up.runs.items)) up.runs.items c.loop-place.place _ _ c.loop-place.invariant c.write_run.ensures below item
