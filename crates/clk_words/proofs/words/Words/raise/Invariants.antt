use Rattle.clk_words.proofs.words.Words.raise.Given as goal

-- the raise is asked for as the caller asks
abbrev pub ghosts-raise_by : goal.ghosts-raise_by
ghosts-raise_by a = record { call = a.call; why = a.why }
