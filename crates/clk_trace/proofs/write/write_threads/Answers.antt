use Rattle.std.proofs.Common.{[]}
use Rattle.clk_trace.specs.WriterParts.{thread_text}
use Rattle.clk_trace.proofs.Lining.{takes_item}
use Rattle.clk_trace.proofs.write.write_threads.Goals as goal

pub loop-thread-preserved : goal.loop-thread-preserved
loop-thread-preserved g c =
    let lines = rw c.items-cpus.ensures at c.write_thread.ensures in
    let below = rw c.items-events-items.ensures at c.loop-thread-test.true in
    let item = rw c.items-events-items.ensures at c.events-item.is in
    takes_item _ _ _ [] (thread_text c.args.trace.now.cpu_of.items) c.args.trace.now.threads.items c.loop-thread.thread _ _ c.loop-thread.invariant lines below item
