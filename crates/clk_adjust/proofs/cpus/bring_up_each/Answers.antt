use Rattle.std.proofs.Common.{◌+◌, ◌<◌, length, sym, subst, ap, ◌∙◌, arith}
use Rattle.std.specs.List.{All}
use Rattle.std.proofs.lemmas.List.{length_push}
use Rattle.clk_machine.specs.Plan.{cpu_count}
use Rattle.clk_adjust.specs.Outcomes.{runs_of, HasRoom}
use Rattle.clk_adjust.proofs.Drawing.{drawn_both}
use Rattle.clk_adjust.proofs.Climbing.{climbs_first, climbs_more, tickets_left, few_then, all_few, brought_up, popped}
use Rattle.clk_adjust.proofs.cpus.bring_up_each.Goals as goal

pub loop-cpu-init : goal.loop-cpu-init
loop-cpu-init g c =
    let none = c.requires.none in
    let ups = c.requires.ups_room in
    let rooms = c.requires.rooms in
    record {
      count = rw none (omega arith);
      climbs = rw none (climbs_first _ _ _);
      ups_room = omega (arith, ups);
      rooms = omega (arith, rooms);
      runs_room = c.requires.runs_room;
    }

pub pop-runs-requires : goal.pop-runs-requires
pop-runs-requires g c =
    let low = c.loop-cpu-test.true in
    let count = c.cpus-cpu-end.ensures.count in
    let rooms = c.loop-cpu.invariant.rooms in
    omega (arith, low, count, rooms)

pub bring_up_cpu-requires-clause-own : goal.bring_up_cpu-requires-clause-own
bring_up_cpu-requires-clause-own g c κs within = c.loop-cpu.invariant.climbs.draws.table ∙ c.requires.own

pub bring_up_cpu-requires-clause-runs : goal.bring_up_cpu-requires-clause-runs
bring_up_cpu-requires-clause-runs g c κs within =
    let Room = HasRoom (runs_of c.args.machine.now.bringup) in
    (popped Room c.pop-runs.new.self.items c.pop-runs.result (subst (All Room) (sym c.pop-runs.ensures.items) c.loop-cpu.invariant.runs_room)).1

pub bring_up_cpu-requires-clause-tickets : goal.bring_up_cpu-requires-clause-tickets
bring_up_cpu-requires-clause-tickets g c κs within =
    let low = c.loop-cpu-test.true in
    let cpus = c.cpus-cpu-end.ensures.count in
    let count = c.loop-cpu.invariant.count in
    let more : length c.loop-cpu.ups.items + 1 < cpu_count c.args.machine.now = omega (arith, low, cpus, count) in
    tickets_left _ c.args.but _ _ _ _ more c.requires.tickets c.loop-cpu.invariant.climbs

pub returns-in_err-up-clause-drawn : goal.returns-in_err-up-clause-drawn
returns-in_err-up-clause-drawn g c = drawn_both _ _ _ _ c.loop-cpu.invariant.climbs.drawn c.in_err-up.ensures.drawn

pub returns-in_err-up-clause-few : goal.returns-in_err-up-clause-few
returns-in_err-up-clause-few g c =
    let low = c.loop-cpu-test.true in
    let cpus = c.cpus-cpu-end.ensures.count in
    let count = c.loop-cpu.invariant.count in
    let more : length c.loop-cpu.ups.items + 1 < cpu_count c.args.machine.now = omega (arith, low, cpus, count) in
    few_then _ c.args.but _ _ c.bring_up_cpu.new.time _ _ more c.loop-cpu.invariant.climbs c.in_err-up.ensures.few

pub loop-cpu-preserved : goal.loop-cpu-preserved
loop-cpu-preserved g c =
    let Room = HasRoom (runs_of c.args.machine.now.bringup) in
    let inv = c.loop-cpu.invariant in
    let count = inv.count in
    let ups = inv.ups_room in
    let rooms = inv.rooms in
    let pushed = length_push c.loop-cpu.ups.items c.in_ok-up.up in
    let items = c.push.ensures.items in
    let room = c.push.ensures.room in
    let popped_of = length_push c.pop-runs.new.self.items c.pop-runs.result in
    let popped_is = ap length c.pop-runs.ensures.items in
    let next =
    climbs_more c.args.machine.now c.args.but c.args.time.now c.loop-cpu.time c.bring_up_cpu.new.time c.loop-cpu.cpu c.loop-cpu.ups.items c.loop-cpu.failed c.in_ok-up.up
    (sym count) inv.climbs c.in_ok-up.ensures.brings c.in_ok-up.ensures.drawn c.in_ok-up.ensures.few in
    record {
      count = rw items (omega (arith, pushed, count));
      climbs = rw (items, c.failed_after-failed.ensures) next;
      ups_room = omega (arith, ups, room);
      rooms = omega (arith, rooms, popped_of, popped_is);
      runs_room = (popped Room c.pop-runs.new.self.items c.pop-runs.result (subst (All Room) (sym c.pop-runs.ensures.items) inv.runs_room)).0;
    }

pub returns-clause-brought_up : goal.returns-clause-brought_up
returns-clause-brought_up g c =
    let low = c.loop-cpu.auto.cpu-end c.cpus-cpu-end.ensures.few.0 in
    let high = c.loop-cpu-test.false in
    let cpus = c.cpus-cpu-end.ensures.count in
    let count = c.loop-cpu.invariant.count in
    brought_up _ _ _ _ _ _ (omega (arith, low, high, cpus, count)) c.loop-cpu.invariant.climbs

pub returns-clause-adjusts : goal.returns-clause-adjusts
returns-clause-adjusts g c = c.loop-cpu.invariant.climbs.near

pub returns-clause-readings : goal.returns-clause-readings
returns-clause-readings g c = c.loop-cpu.invariant.climbs.draws

pub returns-clause-drawn : goal.returns-clause-drawn
returns-clause-drawn g c = c.loop-cpu.invariant.climbs.drawn

pub returns-clause-few : goal.returns-clause-few
returns-clause-few g c =
    let low = c.loop-cpu.auto.cpu-end c.cpus-cpu-end.ensures.few.0 in
    let cpus = c.cpus-cpu-end.ensures.count in
    let count = c.loop-cpu.invariant.count in
    all_few _ c.args.but _ _ _ _ (omega (arith, low, cpus, count)) c.loop-cpu.invariant.climbs
