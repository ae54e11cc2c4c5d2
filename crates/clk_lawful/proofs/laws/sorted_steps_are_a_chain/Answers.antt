use Rattle.clk_lawful.proofs.Sorting.{sorted_chain}
use Rattle.clk_lawful.proofs.laws.sorted_steps_are_a_chain.Goals as goal

pub returns : goal.returns
returns c = sorted_chain
