use Rattle.std.proofs.Common.{[], ◌∷◌, ◌≡◌, ◌<◌, length, sym, subst, rules}
use Rattle.clk_machine.specs.Plan.{Plan}
use Rattle.clk_machine.specs.Time.{source_plan_at}
use Rattle.clk_watcher.specs.Calling.{HasRoomFor}
use Rattle.clk_watcher.proofs.Visiting.{passes_none, room_at, passes_more, pass_ended, pass_done}
use Rattle.clk_watcher.proofs.calls.visit_all.Goals as goal

pub loop-s-init : goal.loop-s-init
loop-s-init c = passes_none c.args.cpu c.args.number c.args.stable.now c.args.ctx.now c.args.trace.now c.requires.stands c.requires.if_stable

pub visit-requires-clause-room : goal.visit-requires-clause-room
visit-requires-clause-room c =
    let m = c.args.ctx.now.machine.now in
    let low : c.loop-s.s < length m.source = search rules in
    let room = room_at m c.loop-s.s c.args.ctx.now.time c.loop-s.ctx.time c.args.trace.now c.loop-s.trace low c.requires.room c.loop-s.invariant.uses in
    subst (λ (x : Plan). HasRoomFor x (source_plan_at x c.loop-s.s ∷ []) c.loop-s.ctx.time c.loop-s.trace) (sym c.loop-s.invariant.makes.keeps.machine) room

pub returns-then-visit : goal.returns-then-visit
returns-then-visit c =
    let low : c.loop-s.s < length c.args.ctx.now.machine.now.source = search rules in
    pass_ended c.args.cpu c.args.number c.loop-s.s c.args.stable.now c.loop-s.stable c.visit.new.stable c.visit.result c.args.ctx.now c.loop-s.ctx c.visit.new.ctx
    c.args.trace.now c.loop-s.trace c.visit.new.trace low c.loop-s.invariant c.visit.ensures c.if-visit.true

pub loop-s-preserved : goal.loop-s-preserved
loop-s-preserved c =
    let low : c.loop-s.s < length c.args.ctx.now.machine.now.source = search rules in
    passes_more c.args.cpu c.args.number c.loop-s.s c.args.stable.now c.loop-s.stable c.visit.new.stable c.visit.result c.args.ctx.now c.loop-s.ctx c.visit.new.ctx
    c.args.trace.now c.loop-s.trace c.visit.new.trace low c.loop-s.invariant c.visit.ensures c.if-visit.false

pub returns : goal.returns
returns c =
    let all : c.loop-s.s ≡ length c.args.ctx.now.machine.now.source = search rules in
    pass_done c.args.cpu c.args.number c.loop-s.s c.args.stable.now c.loop-s.stable c.args.ctx.now c.loop-s.ctx c.args.trace.now c.loop-s.trace all c.loop-s.invariant
