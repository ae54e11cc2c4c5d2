use Rattle.std.proofs.Common.{[], refl}
use Rattle.clk_trace.specs.WriterParts.{boot_text}
use Rattle.clk_trace.proofs.Lining.{takes_item}
use Rattle.clk_trace.proofs.write.write_boots.Goals as goal

pub loop-boot-preserved : goal.loop-boot-preserved
loop-boot-preserved g c = takes_item _ _ _ [] boot_text c.args.boots.now c.loop-boot.boot-index _ _ c.loop-boot.invariant c.write_boot.ensures c.loop-boot-test.true refl
