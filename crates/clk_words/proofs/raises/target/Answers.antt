use Rattle.std.proofs.Common.{◌∙◌, rules, FitsSigned, w64, to_z-of_z}
use Rattle.clk_num.proofs.Heights.{sum_is}
use Rattle.clk_words.proofs.Calling.{raise_target}
use Rattle.clk_words.proofs.raises.target.Goals as goal

pub returns-in-Raise : goal.returns-in-Raise
returns-in-Raise c =
    let raw : FitsSigned w64 c.in-Raise.raw = search rules in
    let tick_raw : FitsSigned w64 c.in-Raise.tick_raw = search rules in
    let tick_gtod : FitsSigned w64 c.in-Raise.tick_gtod = search rules in
    let offset : FitsSigned w64 c.in-Raise.offset = search rules in
    let tick : FitsSigned w64 c.args.tick = search rules in
    let gone : FitsSigned w64 c.above.result = search rules in
    let past : FitsSigned w64 c.max.result = search rules in
    let to : FitsSigned w64 c.target_local.result = search rules in
    let went = simp to_z-of_z at c.above.ensures in
    let since = simp to_z-of_z at c.max.ensures.value in
    let reached = simp to_z-of_z at c.target_local.ensures in
    let sum = sum_is c.in-Raise.tick_gtod c.in-Raise.offset tick_gtod offset in
    to_z-of_z to ∙ raise_target _ _ _ _ _ _ _ _ _ _ c.in-Raise.is went since sum reached
