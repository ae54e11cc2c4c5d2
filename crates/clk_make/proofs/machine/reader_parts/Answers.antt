use Rattle.std.proofs.Common.{List, [], ◌∷◌, ◌++◌, map, sym, ap, ◌∙◌, arith}
use Rattle.std.specs.List.{range_with_len}
use Rattle.std.proofs.lemmas.List.{map-append}
use Rattle.std.proofs.lemmas.List.FromFn.{map-range_with_len_more}
use Rattle.clk_machine.specs.Plan.{ReaderPlan, reader_plan}
use Rattle.clk_make.specs.Made.{made_reader}
use Rattle.clk_make.proofs.machine.reader_parts.Goals as goal

pub loop-reader-preserved : goal.loop-reader-preserved
loop-reader-preserved c =
    let room = c.push.ensures.room in
    let before = c.loop-reader.invariant.room in
    let part = c.in_ok-reader_part.field-0 in
    record {
      items =
          ap (map reader_plan) c.push.ensures.items
          ∙ map-append reader_plan c.loop-reader.parts.items (part ∷ [])
          ∙ ap (λ (xs : List ReaderPlan). xs ++ reader_plan part ∷ []) c.loop-reader.invariant.items
          ∙ ap (λ (p : ReaderPlan). map (made_reader c.args.n) (range_with_len 0 c.loop-reader.reader) ++ p ∷ []) c.in_ok-reader_part.ensures
          ∙ sym (map-range_with_len_more (made_reader c.args.n) 0 c.loop-reader.reader c.loop-reader.reader (omega arith));
      room = omega (arith, room, before);
    }
