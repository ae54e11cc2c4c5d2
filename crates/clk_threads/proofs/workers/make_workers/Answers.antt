use Rattle.std.proofs.Common.{◌≡◌, ℤ, length, length-append, [], ◌∷◌, Some, ap, subst, arith, rules, FitsSigned, w64, to_z, of_z, to_z-of_z}
use Rattle.std.specs.Prelude.{reverse}
use Rattle.clk_threads.specs.Workers.{AreInSlots}
use Rattle.clk_threads.proofs.Seating.{slots_none, slots_more, slots_made}
use Rattle.clk_threads.proofs.workers.make_workers.Goals as goal

pub loop-init : goal.loop-init
loop-init c =
    let off : ℤ = to_z w64 (of_z w64 c.args.sched_offset) in
    let room = c.requires.room in
    let empty = c.requires.empty in
    record {
      way = slots_none c.args.machine.now c.args.adjusts.now.items off c.args.seats c.args.slots.items c.requires.seats empty;
      count = rw empty (omega arith);
      room = omega (arith, room);
    }

pub loop-preserved : goal.loop-preserved
loop-preserved c =
    let off : ℤ = to_z w64 (of_z w64 c.args.sched_offset) in
    let room = c.push.ensures.room in
    let before = c.loop.invariant.room in
    let count = c.loop.invariant.count in
    let items = c.push.ensures.items in
    let both = length-append c.loop.slots.items (Some c.pop.result ∷ []) in
    record {
      way =
          slots_more c.args.machine.now c.args.adjusts.now.items off c.args.seats c.loop.seats c.pop.new.self c.loop.slots.items c.push.new.self.items c.pop.result
          c.loop.invariant.way c.pop.ensures items;
      count = rw items (omega (arith, both, count));
      room = omega (arith, room, before);
    }

pub returns : goal.returns
returns c =
    let m = c.args.machine.now in
    let adjusts = c.args.adjusts.now.items in
    let seats = c.args.seats in
    let made = c.from_vec.result.items in
    let sched : FitsSigned w64 c.args.sched_offset = search rules in
    let count = c.loop.invariant.count in
    let threads = c.threads-end.ensures in
    let given = c.requires.count in
    let all : length c.loop.slots.items ≡ length seats.seats.items = omega (arith, count, threads, given) in
    let into = ap reverse c.into_vec-in_order.ensures in
    let turned = c.reverse.ensures.items in
    let from = c.from_vec.ensures.items in
    let e : made ≡ reverse c.loop.slots.items = cc in
    subst (λ (o : ℤ). AreInSlots m adjusts o seats made) (to_z-of_z sched)
    (slots_made m adjusts (to_z w64 (of_z w64 c.args.sched_offset)) seats c.loop.seats c.loop.slots.items made c.loop.invariant.way all e)
