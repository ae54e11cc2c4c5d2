use Rattle.std.proofs.Common.{rules}
use Rattle.clk_latch.proofs.LatchSteps.{publishes}
use Rattle.clk_latch.proofs.latch.Latch.raise.Goals as goal

pub fetch_add-requires : goal.fetch_add-requires
fetch_add-requires g c = rw c.requires.pick (search rules, search rules, publishes _ _ _ _ c.requires.written c.requires.left c.requires.even c.requires.small)
