use Rattle.clk_words.proofs.words.Words.lift.Given as goal

-- the lift is asked for as the caller asks
abbrev pub ghosts-lift_to : goal.ghosts-lift_to
ghosts-lift_to a = record { call = a.call; value = a.value }
