use Rattle.std.proofs.Common.{ℤ, ◌+ℤ◌, sym, subst, refl, arith, rules, to_z-of_z, FitsSigned, w64}
use Rattle.std.proofs.lemmas.Int.{ints}
use Rattle.clk_num.specs.Wrapping.{wrap}
use Rattle.clk_num.proofs.Heights.{sum_is, above_same}
use Rattle.clk_words.specs.Bounds.{IsRaw}
use Rattle.clk_words.proofs.tests.calls.opening_in.Goals as goal

at_opening : (opens : ℤ) → IsRaw opens opens
at_opening opens = let none = above_same opens in (omega (arith, ints), omega (arith, ints))

pub returns : goal.returns
returns c =
    let gtod : FitsSigned w64 c.args.tick_gtod = search rules in
    let offset : FitsSigned w64 c.args.offset = search rules in
    let opens = wrap (c.args.tick_gtod +ℤ c.args.offset) in
    let sum = sum_is c.args.tick_gtod c.args.offset gtod offset in
    rw (to_z-of_z gtod, to_z-of_z offset)
    (record { opening = record { gtod = c.requires; raw = subst (IsRaw opens) (sym sum) (at_opening opens) }; mode = refl; raw = sum; offset = refl })
