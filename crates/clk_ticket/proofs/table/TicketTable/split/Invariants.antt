use Rattle.clk_ticket.proofs.table.TicketTable.split.Given as goal

-- the part is what is asked for
abbrev pub ghosts-cut : goal.ghosts-cut
ghosts-cut a = record { part = a.left }
