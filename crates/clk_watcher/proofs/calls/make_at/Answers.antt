use Rattle.std.proofs.Common.{◌≡◌, ap, sym, rules, arith}
use Rattle.clk_ticket.specs.Time.{Time}
use Rattle.clk_lawful.specs.Checks.{pause_of}
use Rattle.clk_watcher.proofs.Contexts.{stands_at, stable_here}
use Rattle.clk_watcher.proofs.CheckMade.{stands_paused, stable_paused, room_paused, makes_at}
use Rattle.clk_watcher.proofs.calls.make_at.Goals as goal

pub pause-requires-clause-stands : goal.pause-requires-clause-stands
pause-requires-clause-stands c = stands_at c.args.shared.now c.args.parts c.args.trace.now c.context-ctx.result c.requires.serves c.context-ctx.ensures

pub pause-requires-clause-tickets : goal.pause-requires-clause-tickets
pause-requires-clause-tickets c =
    let pause : pause_of c.context-ctx.result.machine.now ≡ pause_of c.args.shared.now.machine = ap pause_of c.context-ctx.ensures.machine in
    let time : c.context-ctx.result.time.left ≡ c.args.parts.time.left = ap (λ (t : Time). t.left) (sym c.context-ctx.ensures.parts.time) in
    let tickets = c.requires.enough.tickets in
    omega (arith, pause, time, tickets)

pub visit_all-requires-clause-stands : goal.visit_all-requires-clause-stands
visit_all-requires-clause-stands c =
    stands_paused c.context-ctx.result c.pause.new.ctx c.args.trace.now c.pause.new.trace
    (stands_at c.args.shared.now c.args.parts c.args.trace.now c.context-ctx.result c.requires.serves c.context-ctx.ensures) c.pause.ensures

pub visit_all-requires-clause-if_stable : goal.visit_all-requires-clause-if_stable
visit_all-requires-clause-if_stable c =
    λ still.
    stable_paused c.context-ctx.result c.pause.new.ctx c.args.trace.now c.pause.new.trace
    (stable_here c.args.shared.now c.args.parts c.args.trace.now c.context-ctx.result c.requires.serves c.context-ctx.ensures (c.requires.if_stable still)) c.pause.ensures

pub visit_all-requires-clause-room : goal.visit_all-requires-clause-room
visit_all-requires-clause-room c =
    let pause : pause_of c.context-ctx.result.machine.now ≡ pause_of c.args.shared.now.machine = ap pause_of c.context-ctx.ensures.machine in
    let time : c.context-ctx.result.time.left ≡ c.args.parts.time.left = ap (λ (t : Time). t.left) (sym c.context-ctx.ensures.parts.time) in
    let tickets = c.requires.enough.tickets in
    room_paused c.args.shared.now c.args.parts c.context-ctx.result c.pause.new.ctx c.args.trace.now c.pause.new.trace c.requires.serves.limits c.requires.enough c.context-ctx.ensures
    c.pause.ensures (omega (arith, pause, time, tickets))

pub returns : goal.returns
returns c =
    let s = c.args.shared.now in
    let pause : pause_of c.context-ctx.result.machine.now ≡ pause_of s.machine = ap pause_of c.context-ctx.ensures.machine in
    let time : c.context-ctx.result.time.left ≡ c.args.parts.time.left = ap (λ (t : Time). t.left) (sym c.context-ctx.ensures.parts.time) in
    let tickets = c.requires.enough.tickets in
    makes_at s c.args.number _ c.args.stable.now c.visit_all.new.stable c.args.parts c.parts_of.result c.context-ctx.result c.pause.new.ctx c.visit_all.new.ctx
    c.args.trace.now c.pause.new.trace c.visit_all.new.trace c.end_check.new.trace c.requires.serves c.context-ctx.ensures (omega (arith, pause, time, tickets))
    (search rules) c.pause.ensures c.visit_all.ensures c.end_check.ensures c.parts_of.ensures
