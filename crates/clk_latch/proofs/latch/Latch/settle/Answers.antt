use Rattle.std.proofs.Common.{rules}
use Rattle.clk_latch.proofs.LatchSteps.{settles}
use Rattle.clk_latch.proofs.latch.Latch.settle.Goals as goal

pub fetch_add-requires : goal.fetch_add-requires
fetch_add-requires c = (search rules, search rules, settles _ _ _ _ c.requires.written c.requires.last c.requires.odd)
