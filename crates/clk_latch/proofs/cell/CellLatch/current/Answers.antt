use Rattle.std.proofs.Common.{rules}
use Rattle.clk_latch.proofs.CellSteps.{finds}
use Rattle.clk_latch.proofs.CellReading.{found_by, cell_went, cell_began, cell_current}
use Rattle.clk_latch.proofs.cell.CellLatch.current.Goals as goal

pub load_as-found-requires : goal.load_as-found-requires
load_as-found-requires g c = (search rules, (search rules, (search rules, finds _ _ _)))

pub returns-clause-went : goal.returns-clause-went
returns-clause-went g c = cell_went _ _ _ _ (found_by _ _ _ _ _ c.requires.pick c.load_as-found.ensures.rule)

pub returns-clause-begun : goal.returns-clause-begun
returns-clause-begun g c = cell_began _ _ _ _ _ (found_by _ _ _ _ _ c.requires.pick c.load_as-found.ensures.rule) (search rules)

pub returns-clause-current : goal.returns-clause-current
returns-clause-current g c = cell_current _ _ _ _ _ _ c.load_as-found.ensures.rule c.requires.some_seen (search rules) (search rules)
