-- The laws of clock values, from how heights and values correspond.
use Rattle.std.proofs.Common.{arith, sym, subst, ◌∙◌}
use Rattle.std.proofs.lemmas.Int.{ints}
use Rattle.clk_num.specs.WrapLaws.{WrapsByTurns, HeightsCompare, BitsAreInverse}
use Rattle.clk_num.specs.Wrapping.{IsBitsOf}
use Rattle.clk_num.proofs.Wraps.{turns, wrapped}
use Rattle.clk_num.proofs.Heights.{wrap_fits, above_is, bits_are, bits_keep, bits_once}

pub by_turns : WrapsByTurns
by_turns n = (wrap_fits n, turns n, omega (arith, ints, wrapped))

pub heights_compare : HeightsCompare
heights_compare o x y p q =
    let apart = above_is o x y p q in
    ((λ h. omega (arith, ints), λ h. omega (arith, ints)), (λ h. omega (arith, ints), λ h. omega (arith, ints)))

pub bits_inverse : BitsAreInverse
bits_inverse = (
  bits_are,
  λ x y n m p q e f. (λ same. bits_once x n m p q e (f ∙ sym same), λ same. bits_keep x y n e (subst (IsBitsOf y) (sym same) f)),
)
