use Rattle.clk_base.proofs.Lines.{lines_from-append}
use Rattle.clk_base.proofs.laws.joined_lines.Goals as goal

pub returns : goal.returns
returns g c = λ f n xs ys. lines_from-append f n xs ys
