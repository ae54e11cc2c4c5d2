use Rattle.std.proofs.Common.{rules}
use Rattle.clk_latch.proofs.CellSteps.{stores}
use Rattle.clk_latch.proofs.cell.CellLatch.store.Goals as goal

pub swap_as-requires : goal.swap_as-requires
swap_as-requires g c = (search rules, (search rules, (search rules, stores _ _ _ _ _ c.requires.may)))
