use Rattle.std.proofs.Common.{rules}
use Rattle.clk_latch.proofs.LatchSteps.{puts}
use Rattle.clk_latch.proofs.latch.Latch.write.Goals as goal

pub store-requires : goal.store-requires
store-requires c = (search rules, search rules, puts _ _ _ _ _ (search rules) (search rules) (search rules))

pub store-requires-2 : goal.store-requires-2
store-requires-2 c = (search rules, search rules, puts _ _ _ _ _ (search rules) (search rules) (search rules))
