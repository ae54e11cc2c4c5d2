use Rattle.std.proofs.Common.{List, [], ◌∷◌, ◌++◌, sym, ap, ◌∙◌, arith}
use Rattle.clk_num.specs.Listed.{Listed}
use Rattle.clk_lawful.specs.declared.trace.HistoryStep.{HistoryStep}
use Rattle.clk_threads.specs.Preparing.{steps_room, histories_below}
use Rattle.clk_threads.proofs.Filling.{is_empty, histories_next}
use Rattle.clk_threads.proofs.lists.fill_histories.Goals as goal

pub loop-word-preserved : goal.loop-word-preserved
loop-word-preserved c =
    let m = c.args.machine.now in
    let word = c.loop-word.word in
    let room = c.push.ensures.room in
    let before = c.loop-word.invariant.room in
    let made = c.in_ok-with_room.ensures in
    let list = is_empty c.in_ok-with_room.field-0 (steps_room m word) made.items (made.room ∙ c.most_steps_on-steps.ensures) in
    record {
      items =
          c.push.ensures.items ∙ ap (λ (xs : List (Listed HistoryStep)). xs ++ c.in_ok-with_room.field-0 ∷ []) c.loop-word.invariant.items
          ∙ ap (λ (l : Listed HistoryStep). histories_below m word ++ l ∷ []) list
          ∙ sym (histories_next m word);
      room = omega (arith, room, before);
    }
