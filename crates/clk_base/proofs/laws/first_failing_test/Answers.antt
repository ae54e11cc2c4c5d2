use Rattle.clk_base.proofs.Firsts.{first_decides}
use Rattle.clk_base.proofs.laws.first_failing_test.Goals as goal

pub returns : goal.returns
returns g c = λ tests. first_decides tests
