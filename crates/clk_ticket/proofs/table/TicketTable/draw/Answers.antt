use Rattle.std.proofs.Common.{◌≡◌, rules, sym, subst, ap, ◌∙◌}
use Rattle.atomic_table.specs.Table.{Me}
use Rattle.clk_base.specs.Blocks.{Rises}
use Rattle.clk_ticket.specs.Time.{Time, after_draw, share_of}
use Rattle.clk_ticket.specs.TimeSeats.{time_of}
use Rattle.clk_ticket.specs.declared.rule.Knows.{Knows}
use Rattle.clk_ticket.proofs.Blocks.{rises_more, share_drawn}
use Rattle.clk_ticket.proofs.TicketSteps.{draws}
use Rattle.clk_ticket.proofs.table.TicketTable.draw.Goals as goal

pub fetch_add-requires : goal.fetch_add-requires
fetch_add-requires c = (search rules, search rules, draws _ _ _ _ _ (search rules))

pub returns : goal.returns
returns c =
    let told = c.fetch_add.ensures.2 in
    let is : time_of c.fetch_add.new.seat ≡ after_draw c.args.seat.now c.fetch_add.result c.args.n = search rules in
    record {
      is = is;
      later = search rules;
      above = search rules;
      rises = λ rises.
          let was : Rises c.seat.inside.seat.me.0.blocks = subst (λ (t : Time). Rises t.blocks) (sym c.seat.view_is) rises in
          subst (λ (me : Me (Unit {0}) Knows). Rises me.0.blocks) (sym told.is) (rises_more _ _ _ _ told.later c.seat.invariant.behind was);
      budget = search rules;
      bound = search rules;
      share = ap share_of is ∙ share_drawn c.args.seat.now c.fetch_add.result c.args.n c.requires.within.1;
    }
