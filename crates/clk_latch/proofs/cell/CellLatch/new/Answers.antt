use Rattle.std.proofs.Common.{rules}
use Rattle.clk_latch.proofs.Updating.{zero_small}
use Rattle.clk_latch.proofs.CellSteps.{opens}
use Rattle.clk_latch.proofs.CellReading.{opened_seat}
use Rattle.clk_latch.proofs.cell.CellLatch.new.Goals as goal

pub ruled-requires : goal.ruled-requires
ruled-requires g c = (search rules, (search rules, opens))

pub invariant_of-result : goal.invariant_of-result
invariant_of-result g c = opened_seat _ _ _ c.open.ensures.is c.requires.updates c.requires.zero.number (zero_small _ c.requires.zero)
