use Rattle.clk_num.proofs.Heights.{raise_rises, raise_up, raise_reaches, above_raise}
use Rattle.clk_num.proofs.laws.raises_never_fall.Goals as goal

pub returns : goal.returns
returns c = record { rises = λ old value. (raise_rises old value, raise_up old value); reaches = raise_reaches; greatest = above_raise }
