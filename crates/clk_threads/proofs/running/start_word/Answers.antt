use Rattle.std.proofs.Common.{ap, ◌∙◌, rules, FitsSigned, w64}
use Rattle.clk_num.proofs.Heights.{sum_is}
use Rattle.clk_words.specs.Bounds.{opens_of}
use Rattle.clk_threads.proofs.running.start_word.Goals as goal

pub returns : goal.returns
returns c =
    let opening = c.opening_by-opening.result in
    let gtod : FitsSigned w64 opening.tick_gtod = search rules in
    let offset : FitsSigned w64 opening.offset = search rules in
    sum_is opening.tick_gtod opening.offset gtod offset ∙ ap opens_of c.opening_by-opening.ensures
