use Rattle.std.proofs.Common.{[], refl}
use Rattle.clk_trace.specs.WriterParts.{lift_text}
use Rattle.clk_trace.proofs.Lining.{takes_item}
use Rattle.clk_trace.proofs.write_watch.write_lifts.Goals as goal

pub loop-lift-preserved : goal.loop-lift-preserved
loop-lift-preserved g c =
    takes_item _ _ _ [] lift_text c.args.lifts.now c.loop-lift.lift-index _ _ c.loop-lift.invariant c.write_lift.ensures c.loop-lift-test.true refl
