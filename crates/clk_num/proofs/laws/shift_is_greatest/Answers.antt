use Rattle.clk_num.proofs.Rating.{shift_is_greatest, products_fit}
use Rattle.clk_num.proofs.laws.shift_is_greatest.Goals as goal

pub returns : goal.returns
returns c = record { greatest = shift_is_greatest; products = products_fit }
