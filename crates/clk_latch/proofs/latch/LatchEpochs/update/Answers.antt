use Rattle.std.proofs.Common.{◌+◌, ◌≤◌, Some, rules, refl, sym, ap, ◌∙◌, subst, arith}
use mir.Syntax.{w64}
use mir.Val.{to_z, of_z}
use Rattle.atomic_table.specs.Table.{Me}
use Rattle.clk_machine.specs.declared.reading.Published.{Published}
use Rattle.clk_latch.specs.declared.rule.Knows.{Knows}
use Rattle.clk_latch.specs.LatchSeats.{IsOwner}
use Rattle.clk_latch.proofs.LatchSteps.{true_not_false}
use Rattle.clk_latch.proofs.Updating.{is_made, still_owner, updates, drawn_after}
use Rattle.clk_latch.proofs.latch.LatchEpochs.update.Goals as goal

pub publish-requires-clause-may : goal.publish-requires-clause-may
publish-requires-clause-may c =
    let drew = c.draw-ticket.ensures in
    let of = c.args.counter in
    let p : Published = record { rec = c.unwrap-last.result.rec + 1; ticket = c.draw-ticket.result; cyc = c.cycles_at-cyc.result; ns = to_z w64 (of_z w64 c.ns_since.result) } in
    let made = is_made of.machine.now of.cpu of.adjust c.args.seat.now c.seat.inside.seat c.seat.inside.current c.unwrap-last.result c.args.time.now
    c.draw-ticket.result c.cycles_at-cyc.result c.ns_since.result c.seat.view_is c.seat.invariant c.requires.owner c.unwrap-last.ensures
    (record { limits = c.cycles_at-cyc.ensures.limits; there = c.requires.cpu; near = c.requires.adjust })
    c.requires.records c.requires.drawn drew.above drew.later drew.bound (search rules) c.ns_since.ensures.value in
    record {
      owner = made.own;
      left = omega (arith, c.requires.left, made.left);
      even = made.owner.even;
      idle = made.owner.idle;
      small = made.update.small;
    }

pub invariant_of-seat : goal.invariant_of-seat
invariant_of-seat c =
    let drew = c.draw-ticket.ensures in
    let of = c.args.counter in
    let p : Published = record { rec = c.unwrap-last.result.rec + 1; ticket = c.draw-ticket.result; cyc = c.cycles_at-cyc.result; ns = to_z w64 (of_z w64 c.ns_since.result) } in
    let made = is_made of.machine.now of.cpu of.adjust c.args.seat.now c.seat.inside.seat c.seat.inside.current c.unwrap-last.result c.args.time.now
    c.draw-ticket.result c.cycles_at-cyc.result c.ns_since.result c.seat.view_is c.seat.invariant c.requires.owner c.unwrap-last.ensures
    (record { limits = c.cycles_at-cyc.ensures.limits; there = c.requires.cpu; near = c.requires.adjust })
    c.requires.records c.requires.drawn drew.above drew.later drew.bound (search rules) c.ns_since.ensures.value in
    let is = c.publish.ensures.is in
    let left : 1 ≤ c.seat.inside.seat.me.0.left = omega (arith, c.requires.left, made.left) in
    let owner = still_owner c.unwrap-last.result p _ _ made.owner c.unwrap-last.ensures refl made.update.small made.update.order left in
    record {
      empty = ap (λ (x : Me (Unit {0}) Knows). x.1) is ∙ c.seat.invariant.empty;
      reader = λ o. absurd (true_not_false (sym made.own ∙ sym (ap (λ (x : Me (Unit {0}) Knows). x.0.owner) is) ∙ o));
      owner = λ _. subst (λ (x : Me (Unit {0}) Knows). IsOwner (Some p) x.0) (sym is) owner;
    }

pub returns-clause-updates : goal.returns-clause-updates
returns-clause-updates c =
    let drew = c.draw-ticket.ensures in
    let of = c.args.counter in
    let p : Published = record { rec = c.unwrap-last.result.rec + 1; ticket = c.draw-ticket.result; cyc = c.cycles_at-cyc.result; ns = to_z w64 (of_z w64 c.ns_since.result) } in
    let made = is_made of.machine.now of.cpu of.adjust c.args.seat.now c.seat.inside.seat c.seat.inside.current c.unwrap-last.result c.args.time.now
    c.draw-ticket.result c.cycles_at-cyc.result c.ns_since.result c.seat.view_is c.seat.invariant c.requires.owner c.unwrap-last.ensures
    (record { limits = c.cycles_at-cyc.ensures.limits; there = c.requires.cpu; near = c.requires.adjust })
    c.requires.records c.requires.drawn drew.above drew.later drew.bound (search rules) c.ns_since.ensures.value in
    updates of.machine.now of.cpu of.adjust c.args.seat.now c.seat.inside.seat p _ c.publish.new.seat.me c.seat.view_is made.update c.publish.ensures.is

pub returns-clause-drawn : goal.returns-clause-drawn
returns-clause-drawn c =
    let drew = c.draw-ticket.ensures in
    let of = c.args.counter in
    let p : Published = record { rec = c.unwrap-last.result.rec + 1; ticket = c.draw-ticket.result; cyc = c.cycles_at-cyc.result; ns = to_z w64 (of_z w64 c.ns_since.result) } in
    let made = is_made of.machine.now of.cpu of.adjust c.args.seat.now c.seat.inside.seat c.seat.inside.current c.unwrap-last.result c.args.time.now
    c.draw-ticket.result c.cycles_at-cyc.result c.ns_since.result c.seat.view_is c.seat.invariant c.requires.owner c.unwrap-last.ensures
    (record { limits = c.cycles_at-cyc.ensures.limits; there = c.requires.cpu; near = c.requires.adjust })
    c.requires.records c.requires.drawn drew.above drew.later drew.bound (search rules) c.ns_since.ensures.value in
    drawn_after c.seat.inside.seat.me.0 c.seat.inside.seat.me.1 p c.args.time.now c.draw-ticket.new.seat c.publish.new.seat.me drew.is c.publish.ensures.is made.update.drawn
