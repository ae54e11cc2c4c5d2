use Rattle.std.proofs.Common.{◌≡◌, ◌<◌, [], ◌∷◌, length, length-append, ap, ◌∙◌, arith, rules}
use Rattle.clk_machine.specs.Plan.{threads_of}
use Rattle.clk_worker.specs.declared.shared.Shared.{Shared}
use Rattle.clk_threads.proofs.Halfway.{none_taken, next_there, taken_more, taken_slots, taken_parts}
use Rattle.clk_threads.proofs.run.take_all.Goals as goal

pub loop-thread-init : goal.loop-thread-init
loop-thread-init c =
    let room = c.requires.room in
    record { half = none_taken c.args.parts.now c.args.workers.items c.requires.empty; count = ap length c.requires.empty; room = omega (arith, room) }

pub take-requires : goal.take-requires
take-requires c =
    let all = c.threads-thread-end.ensures ∙ ap (λ (s : Shared). length (threads_of s.machine)) c.shared.ensures in
    let count = c.requires.count in
    let below : c.loop-thread.thread < c.threads-thread-end.result = search rules in
    let low : c.loop-thread.thread < length c.args.parts.now.slots = omega (arith, below, all, count) in
    record {
      there =
          next_there c.args.parts.now c.loop-thread.parts c.loop-thread.workers.items c.loop-thread.thread c.loop-thread.invariant.half c.loop-thread.invariant.count low
          c.requires.there;
    }

pub push-requires : goal.push-requires
push-requires c =
    let all = c.threads-thread-end.ensures ∙ ap (λ (s : Shared). length (threads_of s.machine)) c.shared.ensures in
    let count = c.requires.count in
    let below : c.loop-thread.thread < c.threads-thread-end.result = search rules in
    let room = c.loop-thread.invariant.room in
    omega (arith, below, all, count, room)

pub loop-thread-preserved : goal.loop-thread-preserved
loop-thread-preserved c =
    let all = c.threads-thread-end.ensures ∙ ap (λ (s : Shared). length (threads_of s.machine)) c.shared.ensures in
    let count = c.requires.count in
    let below : c.loop-thread.thread < c.threads-thread-end.result = search rules in
    let low : c.loop-thread.thread < length c.args.parts.now.slots = omega (arith, below, all, count) in
    let so_far = c.loop-thread.invariant.count in
    let items = c.push.ensures.items in
    let long = ap length items in
    let both = length-append c.loop-thread.workers.items (c.take.result ∷ []) in
    let room = c.push.ensures.room in
    let before = c.loop-thread.invariant.room in
    record {
      half =
          taken_more c.args.parts.now c.loop-thread.parts c.take.new.self c.loop-thread.workers.items c.push.new.self.items c.loop-thread.thread c.take.result
          c.loop-thread.invariant.half so_far low c.take.ensures.worker c.take.ensures.parts items;
      count = omega (arith, long, both, so_far);
      room = omega (arith, room, before);
    }

pub returns-clause-workers : goal.returns-clause-workers
returns-clause-workers c =
    let all = c.threads-thread-end.ensures ∙ ap (λ (s : Shared). length (threads_of s.machine)) c.shared.ensures in
    let count = c.requires.count in
    let end : c.loop-thread.thread ≡ c.threads-thread-end.result = search rules in
    let so_far = c.loop-thread.invariant.count in
    taken_slots c.args.parts.now c.loop-thread.parts c.loop-thread.workers.items c.loop-thread.invariant.half (omega (arith, all, count, end, so_far))

pub returns-clause-parts : goal.returns-clause-parts
returns-clause-parts c =
    let all = c.threads-thread-end.ensures ∙ ap (λ (s : Shared). length (threads_of s.machine)) c.shared.ensures in
    let count = c.requires.count in
    let end : c.loop-thread.thread ≡ c.threads-thread-end.result = search rules in
    let so_far = c.loop-thread.invariant.count in
    taken_parts c.args.parts.now c.loop-thread.parts c.loop-thread.workers.items c.loop-thread.invariant.half (omega (arith, all, count, end, so_far))
