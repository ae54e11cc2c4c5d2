use Rattle.clk_latch.proofs.latch.Latch.publish.Given as goal

-- the record that is published is the one that is given
abbrev pub ghosts-raise : goal.ghosts-raise
ghosts-raise a = record { record_is = a.new.now }
