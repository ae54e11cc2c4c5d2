use Rattle.std.proofs.Common.{append-nil}
use Rattle.clk_trace.specs.Taking.{Takes, progress_of}
use Rattle.clk_trace.proofs.Taking.{takes_more, takes_all}
use Rattle.clk_tool.specs.Make.{sizes_text}
use Rattle.clk_tool.proofs.make.write_sizes.Goals as goal

pub returns : goal.returns
returns g c =
    let machine = rw (c.from.ensures) at c.line.ensures in
    let cpus = c.line-2.ensures in
    let readers = c.line-3.ensures in
    let words = c.line-4.ensures in
    let tickets = c.line-5.ensures in
    let steps = c.line-6.ensures in
    let two = takes_more _ _ _ _ _ machine cpus in
    let three = takes_more _ _ _ _ _ two readers in
    let four = takes_more _ _ _ _ _ three words in
    let five = takes_more _ _ _ _ _ four tickets in
    let six = takes_more _ _ _ _ _ five steps in
    let whole : Takes (progress_of g.K.Sink.written g.K.Sink.faults c.args.sink.now c.new-out.result) (progress_of g.K.Sink.written g.K.Sink.faults c.finish.new.sink c.finish.new.self) (sizes_text c.args.n c.args.sizes) =
    rw append-nil at (takes_more _ _ _ _ _ six c.finish.ensures.takes) in
    let all = takes_all _ _ _ _ c.new-out.ensures whole c.finish.ensures.ok c.finish.ensures.err in
    record { ok = all.0; err = all.1; cause = all.2 }
