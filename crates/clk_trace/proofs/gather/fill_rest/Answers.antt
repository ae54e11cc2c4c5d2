use Rattle.std.proofs.Common.{◌≡◌, ◌∙◌, ap, get_or, arith}
use Rattle.clk_num.specs.Listed.{Listed}
use Rattle.clk_lawful.specs.declared.event.Event.{Event}
use Rattle.clk_trace.proofs.Keeping.{keeps_none, keeps_all, keeps_room, room_part, left_next}
use Rattle.clk_trace.proofs.gather.fill_rest.Goals as goal

pub loop-thread-init : goal.loop-thread-init
loop-thread-init c = keeps_none _ _

pub keep_rest-requires-clause-room : goal.keep_rest-requires-clause-room
keep_rest-requires-clause-room c =
    let events : c.items.result.now ≡ (get_or c.args.threads.now c.loop-thread.thread c.index-threads-thread.result).items =
    c.items.ensures ∙ ap (λ (l : Listed Event). l.items) c.index-threads-thread.is in
    rw (events, c.place_of-first.ensures)
    (room_part _ _ _ _
    (left_next (λ n. get_or c.args.next.now n 0) c.args.cpu_of.now c.args.threads.now c.loop-thread.thread 0 c.index-threads-thread.result
    (omega (arith, c.loop-thread-test.true, c.requires.count)) (omega (arith, c.loop-thread-test.true)))
    (keeps_room _ _ _ _ c.requires.room c.loop-thread.invariant))

pub loop-thread-preserved : goal.loop-thread-preserved
loop-thread-preserved c =
    let events : c.items.result.now ≡ (get_or c.args.threads.now c.loop-thread.thread c.index-threads-thread.result).items =
    c.items.ensures ∙ ap (λ (l : Listed Event). l.items) c.index-threads-thread.is in
    let kept = rw (events, c.place_of-first.ensures) at c.keep_rest.ensures in
    keeps_all _ _ _ _ _ _ _
    (left_next (λ n. get_or c.args.next.now n 0) c.args.cpu_of.now c.args.threads.now c.loop-thread.thread 0 c.index-threads-thread.result
    (omega (arith, c.loop-thread-test.true, c.requires.count)) (omega (arith, c.loop-thread-test.true)))
    c.loop-thread.invariant kept
