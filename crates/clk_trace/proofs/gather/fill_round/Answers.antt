use Rattle.std.proofs.Common.{◌≡◌, ◌∙◌, ◌<◌, length, refl, ap, get_or, arith}
use Rattle.clk_num.specs.Listed.{Listed}
use Rattle.clk_lawful.specs.declared.event.Event.{Event}
use Rattle.clk_trace.proofs.Keeping.{keeps_none, keeps_more, keeps_room, room_thread, keeps_set}
use Rattle.clk_trace.proofs.gather.fill_round.Goals as goal

pub loop-thread-init : goal.loop-thread-init
loop-thread-init c = keeps_none _ _

pub keep_until-requires-clause-room : goal.keep_until-requires-clause-room
keep_until-requires-clause-room c =
    let events : c.items-events.result.now ≡ (get_or c.args.threads.now c.loop-thread.thread c.index-threads-thread.result).items =
    c.items-events.ensures ∙ ap (λ (l : Listed Event). l.items) c.index-threads-thread.is in
    let low : c.loop-thread.thread < length c.args.threads.now = grind (arith, c.loop-thread-test.true, c.min-count.ensures) in
    rw events
    (room_thread _ (λ n. get_or c.loop-thread.next n 0) c.loop-thread.thread c.args.cpu_of.now c.args.threads.now 0 c.index-threads-thread.result
    (omega (arith, low, c.requires.count)) low (keeps_room _ _ _ _ c.requires.room c.loop-thread.invariant))

pub loop-thread-preserved : goal.loop-thread-preserved
loop-thread-preserved c =
    let events : c.items-events.result.now ≡ (get_or c.args.threads.now c.loop-thread.thread c.index-threads-thread.result).items =
    c.items-events.ensures ∙ ap (λ (l : Listed Event). l.items) c.index-threads-thread.is in
    let low : c.loop-thread.thread < length c.args.threads.now = grind (arith, c.loop-thread-test.true, c.min-count.ensures) in
    let there : c.loop-thread.thread < length c.loop-thread.next = grind (arith, c.loop-thread-test.true, c.min-count.ensures, c.loop-thread.auto.next) in
    let kept = rw events at c.keep_until.ensures in
    keeps_more _ _ _ _ _ _ c.loop-thread.invariant
    (keeps_set _ _ c.loop-thread.next c.loop-thread.thread _ c.keep_until.result c.args.cpu_of.now c.args.threads.now 0 c.index-threads-thread.result refl there
    (omega (arith, low, c.requires.count)) low kept)
