use Rattle.clk_words.proofs.words.Words.split.Given as goal

-- the kind is the one that is asked for
abbrev pub ghosts-give : goal.ghosts-give
ghosts-give a = record { kind = a.kind }
