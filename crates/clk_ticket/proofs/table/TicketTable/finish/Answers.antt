use Rattle.std.proofs.Common.{◌≡◌, ◌∙◌, ap, sym, subst}
use Rattle.clk_base.specs.Blocks.{Covers}
use Rattle.clk_ticket.specs.Sizes.{size_of}
use Rattle.clk_ticket.specs.Time.{Tickets, Time, share_of}
use Rattle.clk_ticket.proofs.TicketSteps.{finishes}
use Rattle.clk_ticket.proofs.table.TicketTable.finish.Goals as goal

pub returns : goal.returns
returns c =
    let whole = ap share_of c.seat.view_is ∙ c.requires.whole ∙ sym (ap (λ (t : Tickets). t.total) c.self.view_is) in
    let told = finishes _ _ _ _ _ _ c.close_with-closed.ensures.values.2 whole c.word-drawn.ensures in
    record {
      cover = subst (λ (t : Time). Covers t.blocks c.word-drawn.result) c.seat.view_is told.0;
      size = subst (λ (t : Time). size_of t.blocks ≡ c.word-drawn.result) c.seat.view_is told.1;
    }
