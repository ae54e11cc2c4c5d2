use Rattle.clk_num.proofs.Heights.{wrap_stays, wrap_above, above_wrap}
use Rattle.clk_num.proofs.Compared.{by_turns, heights_compare, bits_inverse}
use Rattle.clk_num.proofs.laws.values_wrap.Goals as goal

pub returns : goal.returns
returns c = record {
  turns = by_turns;
  keeps = wrap_stays;
  heights = λ o. (wrap_above o, above_wrap o);
  order = heights_compare;
  bits = bits_inverse;
}
