-- What stays as more is seen.
use Rattle.std.proofs.Common.{◌≡◌, ℕ, ◌<◌, List, [], ◌∷◌, ◌++◌, get_or, sym, ◌∙◌, ap, subst, arith}
use Rattle.std.proofs.lemmas.List.{get_or_append_left}
use Rattle.std.proofs.lemmas.List.Sums.{sum_by-append}
use Rattle.std.proofs.lemmas.List.Elements.{All-weaker}
use Rattle.clk_base.specs.declared.block.Block.{Block}
use Rattle.clk_base.specs.Blocks.{in_block, times_in}
use Rattle.clk_machine.specs.Records.{record_zero, raw_by}
use Rattle.clk_machine.specs.declared.reading.Published.{Published}
use Rattle.clk_latch.specs.Laws.{ReadingsStayRight, DrawnTicketsStay}
use Rattle.clk_latch.proofs.Prefixes.{prefix_length}

pub stay_right : ReadingsStayRight
stay_right m cpu adjust records more r begins right =
    let same : get_or more r.rec (record_zero m) ≡ get_or records r.rec (record_zero m) =
    ap (λ xs. get_or xs r.rec (record_zero m)) (sym begins.1) ∙ get_or_append_left records begins.0 (record_zero m) r.rec right.number in
    record {
      counter = right.counter;
      number = omega (arith, right.number, prefix_length records more begins);
      time = subst (λ (p : Published). r.ns ≡ raw_by m p r.cyc) (sym same) right.time;
    }

counted_more : (x : ℕ) (before blocks after : List Block) → 0 < times_in x blocks → 0 < times_in x ((before ++ blocks) ++ after)
counted_more x before blocks after some = omega (arith, sum_by-append (in_block x) (before ++ blocks) after, sum_by-append (in_block x) before blocks, some)

pub stay_drawn : DrawnTicketsStay
stay_drawn before blocks after [] drawn = tt
stay_drawn before blocks after (r ∷ updates) drawn =
    All-weaker (λ (p : Published). 0 < times_in p.ticket blocks) (λ (p : Published). 0 < times_in p.ticket ((before ++ blocks) ++ after))
    (λ p some. counted_more p.ticket before blocks after some) updates drawn
