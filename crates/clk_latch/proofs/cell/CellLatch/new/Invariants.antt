use Rattle.clk_latch.proofs.cell.CellLatch.new.Given as goal

-- record 0 is written, and all updates are left
abbrev pub ghosts-open : goal.ghosts-open
ghosts-open g a = record { record_is = a.zero.now; left_is = a.updates }
