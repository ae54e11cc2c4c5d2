use Rattle.std.proofs.Common.{◌≡◌, false, IsSome, ◌∙◌, ap, rules, sym, subst, refl}
use Rattle.clk_warp.specs.declared.view.Role.TheVariants.{Joined}
use Rattle.clk_warp.specs.Turns.{Lock, Turn, Closes}
use Rattle.clk_warp.specs.LockRule.{knows_both}
use Rattle.clk_warp.specs.TurnSeats.{turn_of}
use Rattle.clk_warp.proofs.Ending.{joins, finishes}
use Rattle.clk_warp.proofs.Seating.{MeOf, end_as, slot_is, closes_by}
use Rattle.clk_warp.proofs.lock.TurnLock.close.Goals as goal

pub join_seat-requires : goal.join_seat-requires
join_seat-requires c =
    let a_out : c.a.inside.inside ≡ false = ap (λ (t : Turn). t.inside) c.a.view_is ∙ c.requires.outside.0 in
    let b_out : c.b.inside.inside ≡ false = ap (λ (t : Turn). t.inside) c.b.view_is ∙ c.requires.outside.1 in
    let a_away = c.a.invariant.outside a_out in
    let b_away = c.b.invariant.outside b_out in
    (search rules, search rules, b_away.1, search rules, joins _ _ _ _ _ c.a.inside.side c.b.inside.side c.a.invariant.role c.b.invariant.role a_away.0 b_away.0)

pub unwrap-requires : goal.unwrap-requires
unwrap-requires c =
    let joined : c.join_seat.new.seat.me.0.role ≡ Joined = ap (λ (m : MeOf). m.0.role) c.join_seat.ensures.2 in
    let end = finishes _ _ _ _ _ joined c.close_with-closed.ensures.values.2 in
    subst IsSome (sym (slot_is _ _ _ c.take-state.result end c.take-state.ensures.value)) refl

pub returns : goal.returns
returns c =
    let joined : c.join_seat.new.seat.me.0.role ≡ Joined = ap (λ (m : MeOf). m.0.role) c.join_seat.ensures.2 in
    let both : c.join_seat.new.seat.me.0 ≡ knows_both c.a.inside.seat.me.0 c.b.inside.seat.me.0 = ap (λ (m : MeOf). m.0) c.join_seat.ensures.2 in
    let end = end_as _ _ _ _ both (finishes _ _ _ _ _ joined c.close_with-closed.ensures.values.2) in
    let closes = closes_by c.a.inside c.b.inside c.self.inside.table.shared.key.value c.unwrap.result c.take-state.result _ end c.take-state.ensures.value (search rules) in
    subst (λ (l : Lock). Closes l.first c.args.a c.args.b c.unwrap.result) c.self.view_is
    (subst (λ (t : Turn). Closes c.self.inside.table.shared.key.value t c.args.b c.unwrap.result) c.a.view_is
    (subst (λ (t : Turn). Closes c.self.inside.table.shared.key.value (turn_of c.a.inside) t c.unwrap.result) c.b.view_is closes))
