use Rattle.std.proofs.Common.{arith}
use Rattle.clk_trace.proofs.Gaining.{lifts_next, fills_more}
use Rattle.clk_trace.proofs.gather.keep_lifts.Goals as goal

pub loop-lift-preserved : goal.loop-lift-preserved
loop-lift-preserved c =
    fills_more _ _ _ _ _ _ _ (lifts_next c.args.thread c.args.lifts.now c.loop-lift.lift-index _ (omega (arith, c.loop-lift-test.true))) c.loop-lift.invariant
    c.keep_lift.ensures
