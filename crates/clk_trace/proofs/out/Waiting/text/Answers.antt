use Rattle.std.proofs.Common.{[], refl, ap}
use Rattle.clk_trace.specs.Taking.{Takes, progress_of}
use Rattle.clk_trace.proofs.Taking.{takes_none, takes_more, takes_kept}
use Rattle.clk_trace.proofs.out.Waiting.text.Goals as goal
use Rattle.clk_trace.proofs.out.Waiting.text.Goals.{then-text-self, else-text-self}

pub returns : goal.returns
returns g c =
    let flushed : Takes (progress_of g.K.Sink.written g.K.Sink.faults c.args.sink.now c.args.self.now) (progress_of g.K.Sink.written g.K.Sink.faults c.if-text-self.sink c.if-text-self.self) [] =
    elim c.if-text-self.branch [ then-text-self w ↦ rw (w.self-is, w.sink-is) w.flush.ensures.takes | else-text-self w ↦ rw (w.self-is, w.sink-is) (takes_none _) ] in
    takes_more _ _ _ _ _ flushed (takes_kept _ _ _ refl refl (ap (λ o. o.failed) c.keep.ensures) (ap (λ o. o.waiting) c.keep.ensures))
