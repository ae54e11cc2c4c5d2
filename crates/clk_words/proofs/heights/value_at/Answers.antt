use Rattle.std.proofs.Common.{◌∙◌, sym, ap, rules, arith, pos, ◌+ℤ◌, ◌^◌, FitsSigned, w64}
use Rattle.std.proofs.lemmas.Int.{ints}
use Rattle.clk_num.specs.Range.{IsNear}
use Rattle.clk_num.specs.Wrapping.{above}
use Rattle.clk_num.proofs.Heights.{sum_is, above_wrap}
use Rattle.clk_words.proofs.heights.value_at.Goals as goal

pub returns : goal.returns
returns c =
    let fits : FitsSigned w64 c.value_of.result = search rules in
    let near : IsNear 62 c.value_of.result = (omega (arith, ints), omega (arith, ints)) in
    let sum = sum_is c.args.opens c.value_of.result c.ranges.opens fits in
    let far = ap (λ x. above x c.args.opens) sum ∙ above_wrap c.args.opens c.value_of.result near in
    c.value_of.ensures ∙ ap (λ x. x +ℤ pos (2 ^ 62)) (sym far)
