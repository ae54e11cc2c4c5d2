use Rattle.std.proofs.Common.{List, [], ◌∷◌, Option, length, length-append, sym, subst, arith, rules}
use Rattle.std.proofs.lemmas.Iterator.Consumers.{YieldsList-turn}
use Rattle.std.proofs.lemmas.Iterator.Adapters.{YieldsList-from_vec}
use Rattle.std.proofs.lemmas.List.Elements.{All-get_or}
use Rattle.clk_worker.specs.Making.{Hand}
use Rattle.clk_threads.specs.Ending.{hands_in, MayJoinSlot, HasGathered}
use Rattle.clk_threads.proofs.Gathering.{hands_more, slot_there, joins_slot, gathered_more}
use Rattle.clk_threads.proofs.ended.gather.Goals as goal

pub unwrap-requires : goal.unwrap-requires
unwrap-requires c =
    let slots : List (Option Hand) = c.args.slots.items in
    let slot : Option Hand = c.in-Some.slot in
    let turn = YieldsList-turn (YieldsList-from_vec {s = c.into_iter-slot-iterator.result} slots (search rules) (search rules))
    c.loop-slot.yielded c.loop-slot.slot-iterator c.loop-slot.yielded_by c.next.result c.next.new.self slot c.in-Some.is c.next.ensures.steps in
    let May = MayJoinSlot c.args.shared.now in
    slot_there c.args.shared.now slot (subst May (sym turn.1) (All-get_or May slots (length c.loop-slot.yielded) slot turn.0 c.requires.workers))

pub join-first-requires-clause-second : goal.join-first-requires-clause-second
join-first-requires-clause-second c =
    let slots : List (Option Hand) = c.args.slots.items in
    let slot : Option Hand = c.in-Some.slot in
    let turn = YieldsList-turn (YieldsList-from_vec {s = c.into_iter-slot-iterator.result} slots (search rules) (search rules))
    c.loop-slot.yielded c.loop-slot.slot-iterator c.loop-slot.yielded_by c.next.result c.next.new.self slot c.in-Some.is c.next.ensures.steps in
    let May = MayJoinSlot c.args.shared.now in
    let may : May slot = subst May (sym turn.1) (All-get_or May slots (length c.loop-slot.yielded) slot turn.0 c.requires.workers) in
    (joins_slot c.args.shared.now slot c.unwrap.result c.unwrap.ensures may c.into_parts-own.result.0 c.into_parts-own.ensures.own).0

pub join-time-requires-clause-second : goal.join-time-requires-clause-second
join-time-requires-clause-second c =
    let slots : List (Option Hand) = c.args.slots.items in
    let slot : Option Hand = c.in-Some.slot in
    let turn = YieldsList-turn (YieldsList-from_vec {s = c.into_iter-slot-iterator.result} slots (search rules) (search rules))
    c.loop-slot.yielded c.loop-slot.slot-iterator c.loop-slot.yielded_by c.next.result c.next.new.self slot c.in-Some.is c.next.ensures.steps in
    let May = MayJoinSlot c.args.shared.now in
    let may : May slot = subst May (sym turn.1) (All-get_or May slots (length c.loop-slot.yielded) slot turn.0 c.requires.workers) in
    (joins_slot c.args.shared.now slot c.unwrap.result c.unwrap.ensures may c.into_parts-own.result.0 c.into_parts-own.ensures.own).1

pub loop-slot-preserved : goal.loop-slot-preserved
loop-slot-preserved c =
    let l = c.loop-slot in
    let slot : Option Hand = c.in-Some.slot in
    let worker : Hand = c.unwrap.result in
    let own = c.into_parts-own.result.0 in
    let events = c.into_parts-own.ensures.events in
    let room = c.push.ensures.room in
    let before = l.invariant.room in
    let latches_room = c.push-in-loop-slot.ensures.room in
    let latches_before = l.invariant.latches_room in
    let both = length-append l.yielded (slot ∷ []) in
    record {
      gathered =
          subst (λ (hands : List Hand). HasGathered c.args.shared.now hands c.args.first c.args.time c.args.threads.now c.args.latches.now c.join-first.result c.join-time.result c.push.new.self c.push-in-loop-slot.new.self)
          (sym (hands_more l.yielded slot worker c.unwrap.ensures))
          (gathered_more c.args.shared.now (hands_in l.yielded) c.args.first c.args.time c.args.threads.now c.args.latches.now l.first l.time l.threads l.latches
          l.invariant.gathered worker own c.join-first.result c.join-time.result c.push.new.self c.push-in-loop-slot.new.self
          (record {
            own = c.into_parts-own.ensures.own;
            place = c.join-first.ensures.own;
            joins = c.join-first.ensures.joins;
            time = c.join-time.ensures.seat;
            share = c.join-time.ensures.share;
            events = rw events c.push.ensures.items;
            latch = c.push-in-loop-slot.ensures.items;
          }));
      room = omega (arith, room, before, both);
      latches_room = omega (arith, latches_room, latches_before, both);
    }
