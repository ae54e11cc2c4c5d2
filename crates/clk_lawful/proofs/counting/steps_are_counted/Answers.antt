use Rattle.clk_lawful.proofs.CountingLaws.{counts_steps}
use Rattle.clk_lawful.proofs.counting.steps_are_counted.Goals as goal

pub returns : goal.returns
returns c = counts_steps
