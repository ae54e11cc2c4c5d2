use Rattle.std.proofs.Common.{true, Some, ◌∙◌, ap, rules, subst}
use Rattle.clk_warp.specs.Turns.{Turn, Enters}
use Rattle.clk_warp.specs.TurnSeats.{turn_of}
use Rattle.clk_warp.proofs.LockSteps.{taking}
use Rattle.clk_warp.proofs.Seating.{outside_of, waiting_of, still_drawn, called_of, taken_of, taken_slot, taken_some, entered, seated_inside}
use Rattle.clk_warp.proofs.lock.TurnLock.enter_by.Goals as goal

pub draw-ticket-requires-clause-outside : goal.draw-ticket-requires-clause-outside
draw-ticket-requires-clause-outside g c =
    outside_of c.seat.inside c.seat.invariant (ap (λ (t : Turn). t.inside) c.seat.view_is ∙ c.requires.outside)

pub wait-requires-clause-waiting : goal.wait-requires-clause-waiting
wait-requires-clause-waiting g c =
    let drawn = still_drawn c.seat.inside.seat c.draw-ticket.new.seat c.meet.new.seat c.draw-ticket.result c.draw-ticket.ensures c.meet.ensures.table c.meet.ensures.number c.meet.ensures.me in
    let out = outside_of c.seat.inside c.seat.invariant (ap (λ (t : Turn). t.inside) c.seat.view_is ∙ c.requires.outside) in
    waiting_of c.seat.inside.seat c.meet.new.seat c.draw-ticket.result out drawn

pub load-requires : goal.load-requires
load-requires g c =
    let drawn = still_drawn c.seat.inside.seat c.draw-ticket.new.seat c.meet.new.seat c.draw-ticket.result c.draw-ticket.ensures c.meet.ensures.table c.meet.ensures.number c.meet.ensures.me in
    let out = outside_of c.seat.inside c.seat.invariant (ap (λ (t : Turn). t.inside) c.seat.view_is ∙ c.requires.outside) in
    let called = called_of c.seat.inside.seat c.meet.new.seat c.wait.new.seat c.draw-ticket.result out drawn c.wait.ensures in
    (search rules, search rules, taking _ _ _ _ called.side called.role called.stage called.empty)

pub exchange-state-requires : goal.exchange-state-requires
exchange-state-requires g c =
    let drawn = still_drawn c.seat.inside.seat c.draw-ticket.new.seat c.meet.new.seat c.draw-ticket.result c.draw-ticket.ensures c.meet.ensures.table c.meet.ensures.number c.meet.ensures.me in
    let taken = taken_of _ c.seat.inside.seat c.meet.new.seat c.wait.new.seat c.draw-ticket.result _ c.load.new.seat.me drawn c.wait.ensures c.load.ensures.2 in
    (search rules, taken_slot _ _ _ taken)

pub unwrap-requires : goal.unwrap-requires
unwrap-requires g c =
    let drawn = still_drawn c.seat.inside.seat c.draw-ticket.new.seat c.meet.new.seat c.draw-ticket.result c.draw-ticket.ensures c.meet.ensures.table c.meet.ensures.number c.meet.ensures.me in
    let taken = taken_of _ c.seat.inside.seat c.meet.new.seat c.wait.new.seat c.draw-ticket.result _ c.load.new.seat.me drawn c.wait.ensures c.load.ensures.2 in
    taken_some _ _ c.exchange-state.result c.load.new.seat.me taken c.exchange-state.ensures.2

pub invariant_of-seat : goal.invariant_of-seat
invariant_of-seat g c =
    let drawn = still_drawn c.seat.inside.seat c.draw-ticket.new.seat c.meet.new.seat c.draw-ticket.result c.draw-ticket.ensures c.meet.ensures.table c.meet.ensures.number c.meet.ensures.me in
    let taken = taken_of _ c.seat.inside.seat c.meet.new.seat c.wait.new.seat c.draw-ticket.result _ c.load.new.seat.me drawn c.wait.ensures c.load.ensures.2 in
    seated_inside c.seat.inside c.exchange-state.new.seat c.draw-ticket.result c.exchange-state.result c.load.new.seat.me c.seat.invariant taken c.exchange-state.ensures.2 c.exchange-state.ensures.3

pub returns : goal.returns
returns g c =
    let i = c.seat.inside in
    let drawn = still_drawn c.seat.inside.seat c.draw-ticket.new.seat c.meet.new.seat c.draw-ticket.result c.draw-ticket.ensures c.meet.ensures.table c.meet.ensures.number c.meet.ensures.me in
    let taken = taken_of _ i.seat c.meet.new.seat c.wait.new.seat c.draw-ticket.result _ c.load.new.seat.me drawn c.wait.ensures c.load.ensures.2 in
    subst (λ (t : Turn). Enters t c.unwrap.result (turn_of (record i { seat = c.exchange-state.new.seat; ticket = Some c.draw-ticket.result; inside = true }))) c.seat.view_is
    (entered i c.exchange-state.new.seat c.draw-ticket.result c.exchange-state.result c.unwrap.result c.load.new.seat.me c.seat.invariant taken
    c.exchange-state.ensures.2 c.exchange-state.ensures.3 (search rules) (search rules))
