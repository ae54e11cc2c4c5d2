use Rattle.std.proofs.Common.{List, [], ◌∷◌, ◌++◌, sym, ap, ◌∙◌, map, arith}
use Rattle.std.specs.List.{range_with_len}
use Rattle.std.proofs.lemmas.List.FromFn.{map-range_with_len_more}
use Rattle.clk_machine.specs.declared.script.Word.{Word}
use Rattle.clk_make.specs.Made.{cpu_word}
use Rattle.clk_make.proofs.word.cpu_words.Goals as goal

pub loop-j-preserved : goal.loop-j-preserved
loop-j-preserved c =
    let room = c.push.ensures.room in
    let before = c.loop-j.invariant.room in
    record {
      items =
          c.push.ensures.items ∙ ap (λ (xs : List Word). xs ++ c.cpu_word.result ∷ []) c.loop-j.invariant.items
          ∙ ap (λ (w : Word). map (cpu_word c.args.n c.args.cpu) (range_with_len 0 c.loop-j.j) ++ w ∷ []) c.cpu_word.ensures
          ∙ sym (map-range_with_len_more (cpu_word c.args.n c.args.cpu) 0 c.loop-j.j c.loop-j.j (omega arith));
      room = omega (arith, room, before);
    }
