use Rattle.std.proofs.Common.{append-nil}
use Rattle.clk_trace.specs.Taking.{Takes, progress_of}
use Rattle.clk_trace.proofs.Taking.{takes_more, takes_all}
use Rattle.clk_tool.specs.Rate.{rate_text}
use Rattle.clk_tool.proofs.rate.write_rate.Goals as goal

pub returns : goal.returns
unfolding rate_text
returns g c =
    let mult = rw (c.from.ensures, c.mult_shift-rate.ensures.rate) at c.line.ensures in
    let shift = rw (c.from-2.ensures, c.mult_shift-rate.ensures.rate) at c.line-2.ensures in
    let wrap = rw (c.max_nsecs-wrap.ensures, c.mask_of.ensures, c.mult_shift-rate.ensures.rate) at c.line-3.ensures in
    let whole : Takes (progress_of g.K.Sink.written g.K.Sink.faults c.args.sink.now c.new-out.result) (progress_of g.K.Sink.written g.K.Sink.faults c.finish.new.sink c.finish.new.self) (rate_text c.args.hz c.args.bits) =
    rw append-nil at (takes_more _ _ _ _ _ (takes_more _ _ _ _ _ (takes_more _ _ _ _ _ mult shift) wrap) c.finish.ensures.takes) in
    let all = takes_all _ _ _ _ c.new-out.ensures whole c.finish.ensures.ok c.finish.ensures.err in
    record { ok = all.0; err = all.1; cause = all.2 }
