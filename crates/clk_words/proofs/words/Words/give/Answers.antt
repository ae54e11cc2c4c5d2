use Rattle.std.proofs.Common.{sym, ap, subst, arith}
use Rattle.atomic_table.specs.Table.{Me}
use Rattle.clk_record.specs.declared.step.Step.{Step}
use Rattle.clk_words.specs.declared.kind.SeatKind.{SeatKind}
use Rattle.clk_words.specs.declared.view.View.{View}
use Rattle.clk_words.specs.Knowing.{MaySplit}
use Rattle.clk_words.specs.Held.{Held}
use Rattle.clk_words.proofs.Calling.{belongs}
use Rattle.clk_words.proofs.Seating.{gives}
use Rattle.clk_words.proofs.Meeting.{gift_of, watch_of, sits_giver}
use Rattle.clk_words.proofs.words.Words.give.Goals as goal

pub split_seat-at-requires : goal.split_seat-at-requires
split_seat-at-requires g c =
    let own = belongs _ _ c.seat.inside.at.me.0 _ _ _ c.seat.view_is c.requires.own c.self.view_is in
    let right : MaySplit c.seat.inside.at.me.0 g.G.Gift.kind =
    subst (λ (k : SeatKind). MaySplit c.seat.inside.at.me.0 k) (sym c.requires.pick) (subst (λ (h : Held). MaySplit h.view c.args.kind) (sym c.seat.view_is) c.requires.right) in (
      own.table_is,
      omega (arith, c.self.invariant.words),
      gives _ _ _ _ c.seat.invariant.live right.first (gift_of _ _ _ _ _ _ c.seat.invariant right.gives) (watch_of _ _ _ _ _ _ c.seat.invariant right.gives),
    )

pub invariant_of-seat : goal.invariant_of-seat
invariant_of-seat g c =
    let told = c.split_seat-at.ensures in
    let view = ap (λ (m : Me Step View). m.0) told.2 in
    let taken = ap (λ (m : Me Step View). m.1) told.2 in
    sits_giver _ _ _ _ _ _ _ g.G.Gift.kind c.seat.invariant taken view
