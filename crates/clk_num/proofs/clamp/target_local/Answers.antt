use Rattle.std.proofs.Common.{rules, FitsSigned, w64, ◌∙◌, ap, to_z-of_z, ◌+ℤ◌}
use Rattle.clk_num.specs.Wrapping.{wrap}
use Rattle.clk_num.proofs.Heights.{sum_is}
use Rattle.clk_num.proofs.clamp.target_local.Goals as goal

pub returns : goal.returns
returns c =
    let delta : FitsSigned w64 c.args.delta = search rules in
    let tick : FitsSigned w64 c.args.tick = search rules in
    let fits : FitsSigned w64 c.min.result = search rules in
    let least = simp to_z-of_z at c.min.ensures.value in
    sum_is c.args.base c.min.result c.ranges.base fits ∙ ap (λ d. wrap (c.args.base +ℤ d)) least
