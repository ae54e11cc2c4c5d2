use Rattle.std.proofs.Common.{◌≡◌, ◌<◌, ◌≤◌, ◌∙◌, sym, ap, FitsSigned, w64, to_z-of_z, rules}
use Rattle.clk_machine.specs.Plan.{plan_of}
use Rattle.clk_machine.specs.Limits.{ticket_limit}
use Rattle.clk_machine.specs.Tickets.{tickets_needed}
use Rattle.clk_machine.proofs.InRange.{in_range}
use Rattle.clk_machine.proofs.Passed.{tickets_pass, tickets_refused}
use Rattle.clk_machine.proofs.machine.Machine.new.Goals as goal

pub needed_by-needed-requires-clause-ranges : goal.needed_by-needed-requires-clause-ranges
needed_by-needed-requires-clause-ranges c = in_range (plan_of c.args.parts) c.requires (sym c.refusal_of.ensures ∙ c.in_default.is)

pub machine_of-requires-clause-ranges : goal.machine_of-requires-clause-ranges
machine_of-requires-clause-ranges c = in_range (plan_of c.args.parts) c.requires (sym c.refusal_of.ensures ∙ c.in_default.is)

pub returns-then-needed-ticket_limit-clause-refused : goal.returns-then-needed-ticket_limit-clause-refused
returns-then-needed-ticket_limit-clause-refused c =
    let fits : FitsSigned w64 c.args.parts.version = search rules in
    let limit : c.ticket_limit.result ≡ ticket_limit c.args.parts.version = c.ticket_limit.ensures.limit ∙ ap ticket_limit (to_z-of_z fits) in
    let many : ticket_limit c.args.parts.version < tickets_needed (plan_of c.args.parts) = rw (limit, c.needed_by-needed.ensures) at c.if-needed-ticket_limit.true in
    rw c.needed_by-needed.ensures (tickets_refused (plan_of c.args.parts) (sym c.refusal_of.ensures ∙ c.in_default.is) many)

pub returns-clause-accepted : goal.returns-clause-accepted
returns-clause-accepted c =
    let fits : FitsSigned w64 c.args.parts.version = search rules in
    let limit : c.ticket_limit.result ≡ ticket_limit c.args.parts.version = c.ticket_limit.ensures.limit ∙ ap ticket_limit (to_z-of_z fits) in
    let few : tickets_needed (plan_of c.args.parts) ≤ ticket_limit c.args.parts.version = rw (limit, c.needed_by-needed.ensures) at c.if-needed-ticket_limit.false in
    tickets_pass (plan_of c.args.parts) (sym c.refusal_of.ensures ∙ c.in_default.is) few
