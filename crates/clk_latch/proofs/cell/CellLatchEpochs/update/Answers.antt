use Rattle.std.proofs.Common.{◌+◌, ◌≤◌, [], rules, refl, ap, arith}
use mir.Syntax.{w64}
use mir.Val.{to_z, of_z}
use Rattle.crossbeam_utils.specs.Seq.{cell_view}
use Rattle.clk_machine.specs.declared.reading.Published.{Published}
use Rattle.clk_latch.specs.Epoch.{Place}
use Rattle.clk_latch.proofs.Updating.{made_at, drawn_after}
use Rattle.clk_latch.proofs.CellReading.{cell_updates, updated_seat}
use Rattle.clk_latch.proofs.cell.CellLatchEpochs.update.Goals as goal

pub publish-requires-clause-may : goal.publish-requires-clause-may
publish-requires-clause-may g c =
    let drew = c.draw-ticket.ensures in
    let of = c.args.counter in
    let p : Published = record { rec = c.unwrap-last.result.rec + 1; ticket = c.draw-ticket.result; cyc = c.cycles_at-cyc.result; ns = to_z w64 (of_z w64 c.ns_since.result) } in
    let made = made_at of.machine.now of.cpu of.adjust c.args.seat.now (cell_view c.seat.inside.pass) c.seat.inside.current c.unwrap-last.result c.args.time.now
    c.draw-ticket.result c.cycles_at-cyc.result c.ns_since.result (ap (λ (x : Place). x.epoch) c.seat.view_is) c.seat.invariant.owner c.requires.owner c.unwrap-last.ensures
    (record { limits = c.cycles_at-cyc.ensures.limits; there = c.requires.cpu; near = c.requires.adjust })
    c.requires.records c.requires.drawn drew.above drew.later drew.bound (search rules) c.ns_since.ensures.value in
    record {
      owner = made.own;
      left = omega (arith, c.requires.left, made.left);
      even = made.owner.even;
      idle = made.owner.idle;
      small = made.update.small;
    }

pub publish-requires-clause-number : goal.publish-requires-clause-number
publish-requires-clause-number g c =
    let drew = c.draw-ticket.ensures in
    let of = c.args.counter in
    let p : Published = record { rec = c.unwrap-last.result.rec + 1; ticket = c.draw-ticket.result; cyc = c.cycles_at-cyc.result; ns = to_z w64 (of_z w64 c.ns_since.result) } in
    let made = made_at of.machine.now of.cpu of.adjust c.args.seat.now (cell_view c.seat.inside.pass) c.seat.inside.current c.unwrap-last.result c.args.time.now
    c.draw-ticket.result c.cycles_at-cyc.result c.ns_since.result (ap (λ (x : Place). x.epoch) c.seat.view_is) c.seat.invariant.owner c.requires.owner c.unwrap-last.ensures
    (record { limits = c.cycles_at-cyc.ensures.limits; there = c.requires.cpu; near = c.requires.adjust })
    c.requires.records c.requires.drawn drew.above drew.later drew.bound (search rules) c.ns_since.ensures.value in
    made.update.number

pub publish-requires-clause-few : goal.publish-requires-clause-few
publish-requires-clause-few g c =
    let drew = c.draw-ticket.ensures in
    let of = c.args.counter in
    let p : Published = record { rec = c.unwrap-last.result.rec + 1; ticket = c.draw-ticket.result; cyc = c.cycles_at-cyc.result; ns = to_z w64 (of_z w64 c.ns_since.result) } in
    let made = made_at of.machine.now of.cpu of.adjust c.args.seat.now (cell_view c.seat.inside.pass) c.seat.inside.current c.unwrap-last.result c.args.time.now
    c.draw-ticket.result c.cycles_at-cyc.result c.ns_since.result (ap (λ (x : Place). x.epoch) c.seat.view_is) c.seat.invariant.owner c.requires.owner c.unwrap-last.ensures
    (record { limits = c.cycles_at-cyc.ensures.limits; there = c.requires.cpu; near = c.requires.adjust })
    c.requires.records c.requires.drawn drew.above drew.later drew.bound (search rules) c.ns_since.ensures.value in
    made.owner.few

pub invariant_of-seat : goal.invariant_of-seat
invariant_of-seat g c =
    let drew = c.draw-ticket.ensures in
    let of = c.args.counter in
    let p : Published = record { rec = c.unwrap-last.result.rec + 1; ticket = c.draw-ticket.result; cyc = c.cycles_at-cyc.result; ns = to_z w64 (of_z w64 c.ns_since.result) } in
    let made = made_at of.machine.now of.cpu of.adjust c.args.seat.now (cell_view c.seat.inside.pass) c.seat.inside.current c.unwrap-last.result c.args.time.now
    c.draw-ticket.result c.cycles_at-cyc.result c.ns_since.result (ap (λ (x : Place). x.epoch) c.seat.view_is) c.seat.invariant.owner c.requires.owner c.unwrap-last.ensures
    (record { limits = c.cycles_at-cyc.ensures.limits; there = c.requires.cpu; near = c.requires.adjust })
    c.requires.records c.requires.drawn drew.above drew.later drew.bound (search rules) c.ns_since.ensures.value in
    let left : 1 ≤ (cell_view c.seat.inside.pass).left = omega (arith, c.requires.left, made.left) in
    updated_seat c.unwrap-last.result p _ _ _ made.owner c.unwrap-last.ensures refl made.update.small made.update.order left made.own c.publish.ensures.is

pub returns-clause-updates : goal.returns-clause-updates
returns-clause-updates g c =
    let drew = c.draw-ticket.ensures in
    let of = c.args.counter in
    let p : Published = record { rec = c.unwrap-last.result.rec + 1; ticket = c.draw-ticket.result; cyc = c.cycles_at-cyc.result; ns = to_z w64 (of_z w64 c.ns_since.result) } in
    let made = made_at of.machine.now of.cpu of.adjust c.args.seat.now (cell_view c.seat.inside.pass) c.seat.inside.current c.unwrap-last.result c.args.time.now
    c.draw-ticket.result c.cycles_at-cyc.result c.ns_since.result (ap (λ (x : Place). x.epoch) c.seat.view_is) c.seat.invariant.owner c.requires.owner c.unwrap-last.ensures
    (record { limits = c.cycles_at-cyc.ensures.limits; there = c.requires.cpu; near = c.requires.adjust })
    c.requires.records c.requires.drawn drew.above drew.later drew.bound (search rules) c.ns_since.ensures.value in
    cell_updates of.machine.now of.cpu of.adjust _ _ _ p _ (ap (λ (x : Place). x.epoch) c.seat.view_is) made.update c.publish.ensures.is

pub returns-clause-drawn : goal.returns-clause-drawn
returns-clause-drawn g c =
    let drew = c.draw-ticket.ensures in
    let of = c.args.counter in
    let p : Published = record { rec = c.unwrap-last.result.rec + 1; ticket = c.draw-ticket.result; cyc = c.cycles_at-cyc.result; ns = to_z w64 (of_z w64 c.ns_since.result) } in
    let made = made_at of.machine.now of.cpu of.adjust c.args.seat.now (cell_view c.seat.inside.pass) c.seat.inside.current c.unwrap-last.result c.args.time.now
    c.draw-ticket.result c.cycles_at-cyc.result c.ns_since.result (ap (λ (x : Place). x.epoch) c.seat.view_is) c.seat.invariant.owner c.requires.owner c.unwrap-last.ensures
    (record { limits = c.cycles_at-cyc.ensures.limits; there = c.requires.cpu; near = c.requires.adjust })
    c.requires.records c.requires.drawn drew.above drew.later drew.bound (search rules) c.ns_since.ensures.value in
    drawn_after (cell_view c.seat.inside.pass) [] p c.args.time.now c.draw-ticket.new.seat (cell_view c.publish.new.pass, []) drew.is (ap (λ k. (k, [])) c.publish.ensures.is) made.update.drawn
