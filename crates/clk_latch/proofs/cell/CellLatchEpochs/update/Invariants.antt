use Rattle.std.proofs.Common.{◌-◌}
use Rattle.crossbeam_utils.specs.Seq.{cell_view}
use Rattle.clk_latch.proofs.cell.CellLatchEpochs.update.Given as goal

-- the record that is written is the one that is given
abbrev pub ghosts-publish : goal.ghosts-publish
ghosts-publish g a = record { record_is = a.new.now; left_is = (cell_view a.pass.now).left - 1 }
