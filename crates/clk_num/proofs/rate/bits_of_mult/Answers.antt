use Rattle.clk_num.proofs.Rating.{bits_are}
use Rattle.std.proofs.Common.{rules}
use Rattle.clk_num.proofs.rate.bits_of_mult.Goals as goal

pub returns-clause-bits : goal.returns-clause-bits
returns-clause-bits c = rw (c.from.ensures, c.from-2.ensures) (bits_are c.args.from c.args.maxsec (search rules) (search rules))
