use Rattle.std.proofs.Common.{[]}
use Rattle.clk_trace.specs.WriterParts.{up_text}
use Rattle.clk_trace.proofs.Lining.{takes_item}
use Rattle.clk_trace.proofs.write.write_ups.Goals as goal

pub loop-up-preserved : goal.loop-up-preserved
loop-up-preserved g c =
    takes_item _ _ _ [] up_text c.args.ups.now c.loop-up.up-index c.up-item.result _ c.loop-up.invariant c.write_up.ensures c.loop-up-test.true c.up-item.is
