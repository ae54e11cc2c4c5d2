use Rattle.std.proofs.Common.{◌≡◌, ℤ, ◌+ℤ◌, sym, ap, ◌∙◌, subst, arith, rules, FitsSigned, w64}
use Rattle.std.proofs.lemmas.Int.{ints}
use Rattle.clk_num.specs.Range.{IsNear}
use Rattle.clk_num.specs.Wrapping.{wrap}
use Rattle.clk_num.proofs.Heights.{sum_is, above_wrap}
use Rattle.clk_words.specs.Bounds.{IsRaw}
use Rattle.clk_words.proofs.tests.calls.after.Goals as goal

raw_after : (opens x ns : ℤ) → x ≡ wrap (opens +ℤ ns) → IsNear 59 ns → IsRaw opens x
raw_after opens x ns is near =
    let low = near.0 in
    let high = near.1 in
    subst (IsRaw opens) (sym is) (subst (IsNear 59) (sym (above_wrap opens ns (omega (arith, ints), omega (arith, ints)))) near)

pub returns : goal.returns
returns c =
    let raw : FitsSigned w64 c.args.start.now.tick_raw = search rules in
    let sum = sum_is c.args.start.now.tick_raw c.args.ns raw c.ranges.ns in
    raw_after _ _ c.args.ns (sum ∙ ap (λ o. wrap (o +ℤ c.args.ns)) c.requires.raw) c.requires.ns
