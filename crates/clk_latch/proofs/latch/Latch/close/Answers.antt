use Rattle.std.proofs.Common.{rules}
use Rattle.clk_latch.proofs.LatchSteps.{closes}
use Rattle.clk_latch.proofs.latch.Latch.close.Goals as goal

pub load-requires : goal.load-requires
load-requires c = (search rules, search rules, closes _ _ _)
