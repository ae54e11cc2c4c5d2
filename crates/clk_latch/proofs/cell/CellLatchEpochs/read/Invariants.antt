use Rattle.clk_latch.proofs.cell.CellLatchEpochs.read.Given as goal

-- the read is told the ticket that is given
abbrev pub ghosts-current : goal.ghosts-current
ghosts-current g a = record { ticket_is = a.ticket }
