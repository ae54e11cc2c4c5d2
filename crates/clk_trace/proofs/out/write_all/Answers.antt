use Rattle.std.proofs.Common.{rules, arith}
use Rattle.clk_base.specs.Causes.{GrewByPrefix}
use Rattle.clk_trace.proofs.Taking.{passes_some, passes_cut}
use Rattle.clk_trace.proofs.out.write_all.Goals as goal

-- src/out.rt:48:21
pub returns-in_err-taken-clause-err : goal.returns-in_err-taken-clause-err
returns-in_err-taken-clause-err g c =
    let cut : GrewByPrefix (g.K.Sink.written c.args.sink.now) (g.K.Sink.written c.write.new.self) c.args.text.now =
    passes_cut _ _ _ _ _ c.loop-left.invariant.passed (0, c.in_err-taken.ensures.bytes) in
    search rules

-- src/out.rt:47:5
pub loop-left-preserved : goal.loop-left-preserved
loop-left-preserved g c = record {
  later = omega (arith, c.loop-left.invariant.later, c.write.ensures.cause.later);
  passed = rw c.split_at.ensures.back (passes_some _ _ _ _ _ c.in_ok-taken.taken c.loop-left.invariant.passed c.in_ok-taken.ensures.bytes.2);
}
