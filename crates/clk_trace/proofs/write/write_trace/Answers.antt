use Rattle.std.proofs.Common.{append-nil}
use Rattle.clk_lawful.specs.TraceText.{text}
use Rattle.clk_trace.specs.Taking.{Takes, progress_of}
use Rattle.clk_trace.proofs.Taking.{takes_more, takes_all}
use Rattle.clk_trace.proofs.WholeText.{text_is}
use Rattle.clk_trace.proofs.write.write_trace.Goals as goal

pub returns : goal.returns
returns g c =
    let boots = rw c.items.ensures at c.write_boots.ensures in
    let ups = rw c.items-2.ensures at c.write_ups.ensures in
    let histories = rw c.items-3.ensures at c.write_histories.ensures in
    let whole : Takes (progress_of g.K.Sink.written g.K.Sink.faults c.args.sink.now c.new-out.result) (progress_of g.K.Sink.written g.K.Sink.faults c.finish.new.sink c.finish.new.self) (text c.args.trace.now) =
    rw (text_is c.args.trace.now) (rw append-nil at
    (takes_more _ _ _ _ _
    (takes_more _ _ _ _ _
    (takes_more _ _ _ _ _
    (takes_more _ _ _ _ _
    (takes_more _ _ _ _ _
    (takes_more _ _ _ _ _
    (takes_more _ _ _ _ _
    (takes_more _ _ _ _ _
    (takes_more _ _ _ _ _ (takes_more _ _ _ _ _ (takes_more _ _ _ _ _ c.line.ensures c.line-2.ensures) boots) c.write_start.ensures)
    ups)
    c.write_boot_demotion.ensures)
    c.write_words.ensures)
    c.write_threads.ensures)
    c.write_watch.ensures)
    histories)
    c.line-3.ensures)
    c.finish.ensures.takes)) in
    let all = takes_all _ _ _ _ c.new-out.ensures whole c.finish.ensures.ok c.finish.ensures.err in
    record { ok = all.0; err = all.1; cause = all.2 }
