use Rattle.std.proofs.Common.{ap, arith}
use Rattle.clk_ticket.specs.Time.{Time}
use Rattle.clk_local.proofs.Spending.{few_tickets}
use Rattle.clk_local.proofs.tests.rows.read_late.Goals as goal

pub draw-requires-clause-within : goal.draw-requires-clause-within
draw-requires-clause-within g c =
    let left = c.requires.tickets in
    let first = c.local-read.ensures.spends.left in
    let second = c.tick-ticked.ensures.spends.left in
    let few = few_tickets c.tick-ticked.result in (omega arith, omega arith)

pub local_raised-late-requires-clause-ticket : goal.local_raised-late-requires-clause-ticket
local_raised-late-requires-clause-ticket g c =
    let left = c.requires.tickets in
    let first = c.local-read.ensures.spends.left in
    let second = c.tick-ticked.ensures.spends.left in
    let few = few_tickets c.tick-ticked.result in
    let drew = ap (λ (t : Time). t.left) c.draw.ensures.is in omega arith

pub local_raised-late-requires-clause-found : goal.local_raised-late-requires-clause-found
local_raised-late-requires-clause-found g c κs lives =
    c.tick-ticked.ensures.keeps.role.found (c.local-read.ensures.keeps.role.found c.requires.found)
