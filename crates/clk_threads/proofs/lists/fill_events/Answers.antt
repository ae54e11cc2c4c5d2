use Rattle.std.proofs.Common.{◌*◌, ◌<◌, List, [], ◌∷◌, ◌++◌, length, map, take, sym, ap, ◌∙◌, arith, rules}
use Rattle.clk_num.specs.Listed.{Listed}
use Rattle.clk_machine.specs.Plan.{threads_of, thread_at}
use Rattle.clk_lawful.specs.declared.event.Event.{Event}
use Rattle.clk_threads.specs.Preparing.{no_events}
use Rattle.clk_threads.proofs.Filling.{is_empty}
use Rattle.clk_threads.proofs.Sharing.{map_more}
use Rattle.clk_threads.proofs.lists.fill_events.Goals as goal

pub loop-thread-preserved : goal.loop-thread-preserved
loop-thread-preserved c =
    let m = c.args.machine.now in
    let thread = c.loop-thread.thread in
    let low : thread < length (threads_of m) = search rules in
    let words = c.words-words.ensures.count in
    let room = c.push.ensures.room in
    let before = c.loop-thread.invariant.room in
    let made = c.in_ok-with_room.ensures in
    let list = is_empty c.in_ok-with_room.field-0 (3 * length (thread_at m thread).1) made.items (omega (arith, made.room, words)) in
    record {
      items =
          c.push.ensures.items ∙ ap (λ (xs : List (Listed Event)). xs ++ c.in_ok-with_room.field-0 ∷ []) c.loop-thread.invariant.items
          ∙ ap (λ (l : Listed Event). map no_events (take thread (threads_of m)) ++ l ∷ []) list
          ∙ sym (map_more no_events (threads_of m) thread (0, []) low);
      room = omega (arith, room, before);
    }
